-- What is left of `front`: the two fields are the exponent and the mantissa's bits.
-- Sign and magnitude are those of the number that the bits stand for.
use Rattle.std.proofs.Common.{rules, sym, ap, subst, ◌∙◌, ℕ, ◌^◌, ◌<◌, ℤ}
use mir.Syntax.{w16}
use mir.ValLaws.{to_z-of_z}
use Rattle.integer.specs.Fields.{signed, int_at}
use Rattle.integer.proofs.BigEndian.{be-lt}
use Rattle.float40.specs.Float40.{value40, float40_at}
use Rattle.float40.specs.Private.{number_of}
use Rattle.float40.proofs.front.Goals as goal

pub of_bits-requires : goal.of_bits-requires
of_bits-requires c =
    subst (λ (n : ℕ). n < 2 ^ 24) (sym c.uint24_at-m.ensures) (be-lt 3 c.args.«data».now 2 (λ i. (c.type_inv.«data» i).fits))

pub returns : goal.returns
unfolding float40_at int_at
returns c =
    let s = c.args.«data».now in
    let e = c.int16_at-e in
    c.value.ensures
    ∙ ap (λ (z : ℤ). value40 z (number_of c.of_bits.result)) (to_z-of_z w16 e.result (search rules) ∙ e.ensures)
    ∙ ap (value40 (int_at 2 s 0)) (c.of_bits.ensures ∙ ap (signed 24) c.uint24_at-m.ensures)
