-- What is left of `int32_at`: what std makes of the bytes is the number that they stand for.
-- The bytes are those at the place.
use Rattle.std.proofs.Common.{arith, rules, refl, ap, ◌∙◌, to_z, w32}
use mir.ValLaws.{to_z-of_z}
use Rattle.integer.specs.Fields.{be_at, int_at}
use Rattle.integer.proofs.BigEndian.{be-lt}
use Rattle.integer.proofs.Complement.{of-type}
use Rattle.integer.proofs.int32_at.Goals as goal

pub returns : goal.returns
unfolding be_at int_at
returns c =
    let b = c.bytes_at.ensures in
    let n = be_at 4 c.args.«data».now c.args.offset in
    let g = be-lt 4 c.args.«data».now c.args.offset (λ i. (c.type_inv.«data» i).fits) in
    to_z-of_z w32 _ (search rules) ∙ c.from_be_bytes.ensures ∙ ap (to_z w32) (omega (arith, b 0 (omega arith), b 1 (omega arith), b 2 (omega arith), b 3 (omega arith))) ∙ of-type w32 n refl g
