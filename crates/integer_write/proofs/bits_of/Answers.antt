-- What is left of `bits_of`: std's bits of an i32 are its 32 bits in two's complement.
-- They are so for every width.
use Rattle.std.proofs.Common.{ap, ◌∙◌, w32, of_z}
use mir.ValLaws.{to_z-of_z, half_full}
use Rattle.integer_write.proofs.Bits.{of-type}
use Rattle.integer_write.proofs.bits_of.Goals as goal

pub returns : goal.returns
returns c =
    c.cast_unsigned.ensures ∙ ap (of_z w32) (to_z-of_z w32 c.args.val c.ranges.val)
    ∙ of-type w32 c.args.val (half_full w32 c.ranges.val.sfits)
