-- The default record of EF is the table of zeros, as the trait of records wants.
-- Each of its numbers is zero, and so is each of the fifteen elements.
use Rattle.std.specs.Prelude.{◌≡◌}
use lib.Ieee.{of_bits}
use Rattle.layout.specs.Layout.{zeros}
use Rattle.layout.proofs.Alike.{alike}
use Rattle.spin.specs.declared.AntennaElement.{AntennaElement}
use Rattle.spin.specs.declared.SpinResult.{SpinResult}
use Rattle.spin.specs.contracts.AntennaElementDefault.TheImpl as element
use Rattle.spin.specs.contracts.SpinResultDefault.TheImpl as result
use Rattle.spin.specs.Tables.{element_of, spin_of}

element-zeros : (r : AntennaElement) → element.is_default-value.it r → r ≡ element_of zeros 0
unfolding of_bits
element-zeros r (a, (b, c)) = λ i. record { spin_rpm = a i; peak = b i; snr = c i }

pub spin-zeros : (r : SpinResult) → result.is_default-value.it r → r ≡ spin_of zeros
unfolding spin_of of_bits
spin-zeros r (a, (b, (c, (d, (e, (f, (g, (h, (j, (k, (l, (m, (n, (o, (p, (q, (s, t))))))))))))))))) =
    λ i.
    record {
      version = a i;
      antenna_data = alike element.is_default-value.it r.antenna_data 15 (λ _. element_of zeros 0) (λ x k. element-zeros x) b i;
      pm_spin_raw = c i;
      pm_spin_final = d i;
      pm_spin_confidence = e i;
      lift_spin = f i;
      spin_validate_expected = g i;
      spin_validate_low = h i;
      spin_validate_high = j i;
      spin_validate_scaling = k i;
      spin_method = l i;
      spin_flags = m i;
      launch_spin = n i;
      am_spin = o i;
      pm_spin = p i;
      spin_axis = q i;
      aod_spin = s i;
      pll_spin = t i;
    }
