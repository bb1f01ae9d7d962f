-- `read_element` meets its contract: each call answers a field of the table, in the part that begins with the element.
-- What stands at a place of the part stands that far behind its start in the payload.
use Rattle.std.proofs.Common.{◌+◌, ◌≡◌, ◌∙◌, ap, arith, w16}
use lib.Ieee.{of_int, of_bits}
use Rattle.integer.specs.Fields.{int_at}
use Rattle.layout.specs.Layout.{over}
use Rattle.layout.proofs.Held.{held}
use Rattle.layout.proofs.Parts.{int-from}
use Rattle.spin.proofs.read_element.Goals as goal

pub returns : goal.returns
unfolding of_int of_bits
returns c =
    let d = c.args.d.now in
    let first : c.args.base + 0 ≡ c.args.base = omega arith in
    λ i.
    record {
      spin_rpm = held w16 (c.int16_at.ensures ∙ int-from d c.args.base c.min.ensures 2 0 ∙ ap (int_at 2 d) first) c.int16_at.type_inv i;
      peak = (c.int24_scaled_at.ensures ∙ ap (over 1000) (int-from d c.args.base c.min.ensures 3 2)) i;
      snr = held w16 (c.int16_at-2.ensures ∙ int-from d c.args.base c.min.ensures 2 5) c.int16_at-2.type_inv i;
    }
