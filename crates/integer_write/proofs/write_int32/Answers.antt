-- What is left of `write_int32`: its 32 bits are its four bytes.
-- `write_uint32` says the rest, of the bits instead of the number.
use Rattle.std.proofs.Common.{ap, subst, ◌∙◌, ℕ, List, w32}
use mir.ValLaws.{to_z-of_z}
use Rattle.integer_write.specs.Writing.{bytes_of, unsigned, int_bytes}
use Rattle.integer_write.proofs.Cases.{Wrote}
use Rattle.integer_write.proofs.write_int32.Goals as goal

pub returns : goal.returns
unfolding int_bytes
returns c =
    let w = c.write_uint32 in
    let bits = c.bits_of.ensures ∙ ap (unsigned 32) (to_z-of_z w32 c.args.val c.ranges.val) in
    subst (λ (bs : List ℕ). Wrote w.result w.new.buf bs c.args.buf.now c.args.offset) (ap (bytes_of 4) bits) w.ensures
