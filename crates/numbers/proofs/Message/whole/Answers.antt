-- INT24 at the number's place.
-- Where the sum would pass the largest usize it stops there, and neither place has a byte.
use Rattle.std.proofs.Common.{◌≡◌, ap, ◌∙◌, ◌+◌, ◌*◌, ◌-◌, ◌^◌, ◌<◌, min, length, arith, w32}
use Rattle.integer.specs.Fields.{int_at}
use Rattle.layout.proofs.Held.{held}
use Rattle.numbers.specs.declared.Shape.{Shape}
use Rattle.numbers.specs.Numbers.{shape_of, whole_of}
use Rattle.numbers.proofs.Past.{stopped}
use Rattle.numbers.proofs.Message.whole.Goals as goal

pub returns : goal.returns
unfolding whole_of
returns c =
    let a = c.args in
    let base : c.shape.result.base ≡ (shape_of a.self).base = ap (λ (s : Shape). s.base) c.shape.ensures in
    let short : length a.payload.now < 2 ^ 64 = omega arith in
    let at : c.saturating_add.result ≡ min (min (a.number * 3) (2 ^ 64 - 1) + (shape_of a.self).base) (2 ^ 64 - 1) =
    omega (arith, base, c.saturating_mul-steps.ensures, c.saturating_add.ensures) in
    held w32 (c.int24_at.ensures ∙ ap (int_at 3 a.payload.now) at ∙ stopped a.payload.now (shape_of a.self).base a.number short) c.int24_at.type_inv
