-- Document 01, EF: as the source. Its table, and an antenna element's: every field's place, width and scale, in the source's order.
-- (`int 2 106` is the INT16 at 106, `figure (over 10) 2 132` the INT16 at 132 divided by 10.)
use Rattle.std.specs.Prelude.{ℕ, ◌+◌, ◌*◌}
use Rattle.layout.specs.Layout.{Source, over, row}
use Rattle.spin.specs.declared.AntennaElement.{AntennaElement}
use Rattle.spin.specs.declared.SpinResult.{SpinResult}

abbrev pub element_of : Source → ℕ → AntennaElement
element_of s at = record { spin_rpm = s.int 2 at; peak = s.figure (over 1000) 3 (at + 2); snr = s.int 2 (at + 5) }

-- 15 elements of 7 bytes from place 1 on: bin b of group g is number 3g + b
unfoldable pub spin_of : Source → SpinResult
spin_of s =
    record {
      version = s.byte 0;
      antenna_data = row 15 (λ n. element_of s (1 + n * 7));
      pm_spin_raw = s.int 2 106;
      pm_spin_final = s.int 2 108;
      pm_spin_confidence = s.int 2 110;
      lift_spin = s.int 2 112;
      spin_validate_expected = s.int 2 114;
      spin_validate_low = s.int 2 116;
      spin_validate_high = s.int 2 118;
      spin_validate_scaling = s.int 2 120;
      spin_method = s.byte 122;
      spin_flags = s.int 3 123;
      launch_spin = s.int 2 126;
      am_spin = s.int 2 128;
      pm_spin = s.int 2 130;
      spin_axis = s.figure (over 10) 2 132;
      aod_spin = s.int 2 134;
      pll_spin = s.int 2 136;
    }
