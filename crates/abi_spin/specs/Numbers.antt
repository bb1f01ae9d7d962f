-- The numbers of EF's record as C takes them: the whole ones, then the floats, in the record's order.
-- An i16 and a byte count as an i32.
use Rattle.std.specs.Prelude.{List, [], ◌∷◌, ◌++◌, ℤ, pos, Float}
use Rattle.spin.specs.declared.AntennaElement.{AntennaElement}
use Rattle.spin.specs.declared.SpinResult.{SpinResult}

-- spin and signal-to-noise of each element
abbrev pub elements_whole : List AntennaElement → List ℤ
elements_whole [] = []
elements_whole (e ∷ es) = e.spin_rpm ∷ e.snr ∷ elements_whole es

abbrev pub peaks : List AntennaElement → List Float
peaks [] = []
peaks (e ∷ es) = e.peak ∷ peaks es

-- what follows the elements
abbrev pub spin_rest : SpinResult → List ℤ
spin_rest r =
    r.pm_spin_raw ∷ r.pm_spin_final ∷ r.pm_spin_confidence ∷ r.lift_spin ∷ r.spin_validate_expected
    ∷ r.spin_validate_low ∷ r.spin_validate_high ∷ r.spin_validate_scaling ∷ pos r.spin_method
    ∷ r.spin_flags ∷ r.launch_spin ∷ r.am_spin ∷ r.pm_spin ∷ r.aod_spin ∷ r.pll_spin ∷ []

abbrev pub spin_whole : SpinResult → List ℤ
spin_whole r = pos r.version ∷ elements_whole r.antenna_data ++ spin_rest r

abbrev pub spin_figures : SpinResult → List Float
spin_figures r = peaks r.antenna_data ++ r.spin_axis ∷ []

abbrev pub spin_numbers : SpinResult → List ℤ × List Float
spin_numbers r = (spin_whole r, spin_figures r)
