-- What is left of `write_int16`: its 16 bits are its two bytes.
-- `write_uint16` says the rest, of the bits instead of the number.
use Rattle.std.proofs.Common.{ap, subst, ◌∙◌, ℕ, List, of_z}
use mir.Syntax.{w16}
use mir.ValLaws.{to_z-of_z, half_full}
use Rattle.integer_write.specs.Writing.{bytes_of, int_bytes}
use Rattle.integer_write.proofs.Bits.{of-type}
use Rattle.integer_write.proofs.Cases.{Wrote}
use Rattle.integer_write.proofs.write_int16.Goals as goal

pub returns : goal.returns
unfolding int_bytes
returns c =
    let w = c.write_uint16 in
    let bits = c.cast_unsigned.ensures ∙ ap (of_z w16) (to_z-of_z w16 c.args.val c.ranges.val) ∙ of-type w16 c.args.val (half_full w16 c.ranges.val.sfits) in
    subst (λ (bs : List ℕ). Wrote w.result w.new.buf bs c.args.buf.now c.args.offset) (ap (bytes_of 2) bits) w.ensures
