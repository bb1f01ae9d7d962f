-- The message's scale, of its number as it was read.
-- The shape says which number that is.
use Rattle.std.proofs.Common.{ap, ◌∙◌, ℤ, w32}
use Rattle.layout.proofs.Held.{held}
use Rattle.numbers.specs.declared.Shape.{Shape}
use Rattle.numbers.specs.Numbers.{whole_of, float, scale_rule, scale_of}
use Rattle.numbers.proofs.Message.scale.Goals as goal

pub returns : goal.returns
unfolding scale_of
returns c =
    let a = c.args in
    let z = held w32 (c.whole.ensures ∙ ap (λ (s : Shape). whole_of a.self a.payload.now s.scale) c.shape.ensures) c.whole.type_inv in
    c.scale.ensures ∙ ap (λ (z : ℤ). float (scale_rule a.self z)) z
