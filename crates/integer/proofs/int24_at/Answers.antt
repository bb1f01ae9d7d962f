-- What is left of `int24_at`: what std makes of the bytes is the number that they stand for, 256 times.
-- The bytes are those at the place; moved down again it is the number of 24 bits.
use Rattle.std.proofs.Common.{arith, rules, refl, sym, ap, subst, ◌∙◌, ◌≡◌, ◌*◌, ◌^◌, ℤ, FitsSigned, to_z, of_z, w32}
use lib.Signed.{shr_z}
use mir.ValLaws.{to_z-of_z}
use Rattle.integer.specs.Fields.{be_at, signed, int_at}
use Rattle.integer.proofs.BigEndian.{be-lt}
use Rattle.integer.proofs.Complement.{of-type, moved, signed-fits}
use Rattle.integer.proofs.int24_at.Goals as goal

pub returns : goal.returns
unfolding be_at int_at
returns c =
    let b = c.bytes_at.ensures in
    let n = be_at 3 c.args.«data».now c.args.offset in
    let g = be-lt 3 c.args.«data».now c.args.offset (λ i. (c.type_inv.«data» i).fits) in
    let up : to_z w32 (of_z w32 c.from_be_bytes.result) ≡ signed 32 (n * 2 ^ 8) =
    to_z-of_z w32 _ (search rules) ∙ c.from_be_bytes.ensures ∙ ap (to_z w32) (omega (arith, b 0 (omega arith), b 1 (omega arith), b 2 (omega arith)))
    ∙ of-type w32 (n * 2 ^ 8) refl (omega (arith, g)) in
    let down : shr_z (to_z w32 (of_z w32 c.from_be_bytes.result)) 256 ≡ signed 24 n =
    ap (λ (z : ℤ). shr_z z 256) up ∙ moved 24 8 n (omega arith) g in
    to_z-of_z w32 _ (subst (λ (z : ℤ). FitsSigned w32 z) (sym down) (signed-fits w32 24 n (omega arith) (omega arith) g)) ∙ down
