-- `fields` meets its contract: each call answers a field of the table.
-- A signed number that is read is the number its bits hold.
use lib.Ieee.{of_int, of_bits}
use mir.Syntax.{w16, w32}
use Rattle.layout.proofs.Held.{held}
use Rattle.spin.specs.Tables.{spin_of}
use Rattle.spin.proofs.fields.Goals as goal

pub returns : goal.returns
unfolding spin_of of_int of_bits
returns c =
    λ i.
    record {
      version = c.byte_at.ensures i;
      antenna_data = c.read_antennas.ensures i;
      pm_spin_raw = held w16 c.int16_at.ensures c.int16_at.type_inv i;
      pm_spin_final = held w16 c.int16_at-2.ensures c.int16_at-2.type_inv i;
      pm_spin_confidence = held w16 c.int16_at-3.ensures c.int16_at-3.type_inv i;
      lift_spin = held w16 c.int16_at-4.ensures c.int16_at-4.type_inv i;
      spin_validate_expected = held w16 c.int16_at-5.ensures c.int16_at-5.type_inv i;
      spin_validate_low = held w16 c.int16_at-6.ensures c.int16_at-6.type_inv i;
      spin_validate_high = held w16 c.int16_at-7.ensures c.int16_at-7.type_inv i;
      spin_validate_scaling = held w16 c.int16_at-8.ensures c.int16_at-8.type_inv i;
      spin_method = c.byte_at-2.ensures i;
      spin_flags = held w32 c.int24_at.ensures c.int24_at.type_inv i;
      launch_spin = held w16 c.int16_at-9.ensures c.int16_at-9.type_inv i;
      am_spin = held w16 c.int16_at-10.ensures c.int16_at-10.type_inv i;
      pm_spin = held w16 c.int16_at-11.ensures c.int16_at-11.type_inv i;
      spin_axis = c.int16_scaled_at.ensures i;
      aod_spin = held w16 c.int16_at-12.ensures c.int16_at-12.type_inv i;
      pll_spin = held w16 c.int16_at-13.ensures c.int16_at-13.type_inv i;
    }
