-- What is left of `write_int24`: the low three bytes of its 32 bits are its three bytes.
-- `write_uint24` says the rest, of the bits instead of the number.
use Rattle.std.proofs.Common.{arith, ap, subst, ◌∙◌, ℕ, List, w32}
use mir.ValLaws.{to_z-of_z}
use Rattle.integer_write.specs.Writing.{bytes_of, unsigned}
use Rattle.integer_write.proofs.Bytes.{wide}
use Rattle.integer_write.proofs.Cases.{Wrote}
use Rattle.integer_write.proofs.write_int24.Goals as goal

pub returns : goal.returns
returns c =
    let w = c.write_uint24 in
    let bits = c.bits_of.ensures ∙ ap (unsigned 32) (to_z-of_z w32 c.args.val c.ranges.val) in
    subst (λ (bs : List ℕ). Wrote w.result w.new.buf bs c.args.buf.now c.args.offset) (ap (bytes_of 3) bits ∙ wide 32 3 c.args.val (omega arith)) w.ensures
