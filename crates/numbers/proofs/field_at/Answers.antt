-- The two refusals in their order, then the list's entry decides.
-- Each of the four answers is a law of proofs/Told.
use Rattle.std.proofs.Common.{ap, ◌∙◌, ℤ, w32, arith}
use Rattle.std.specs.Prelude.{Float}
use Rattle.error.specs.Refusal.{yes}
use Rattle.integer.specs.Fields.{scaled_by}
use Rattle.layout.proofs.Held.{held}
use Rattle.numbers.specs.Numbers.{entry_of}
use Rattle.numbers.specs.Asked.{whole, figure}
use Rattle.numbers.proofs.Told.{told-short, told_none, told-count, told-figure}
use Rattle.numbers.proofs.field_at.Goals as goal

pub returns-then-got-shape : goal.returns-then-got-shape
returns-then-got-shape c = told-short c.args.message c.args.payload.now c.args.number _ c.shape-shape.ensures (omega arith)

pub returns-then-shape-number : goal.returns-then-shape-number
returns-then-shape-number c =
    told_none c.args.message c.args.payload.now c.args.number _ c.shape-shape.ensures (omega arith) (omega arith)

pub returns-then-divisor-eq0 : goal.returns-then-divisor-eq0
returns-then-divisor-eq0 c =
    let a = c.args in
    ap (λ (z : ℤ). yes (whole z)) (held w32 c.inside-value.ensures c.inside-value.type_inv)
    ∙ told-count a.message a.payload.now a.number _ c.shape-shape.ensures (omega arith) (omega arith) _
    c.entry-divisor.ensures c.if-divisor-eq0.true

pub returns : goal.returns
returns c =
    let a = c.args in
    let y = held w32 c.inside-value.ensures c.inside-value.type_inv in
    ap (λ (x : Float). yes (figure x)) (c.figure.ensures ∙ (λ i. scaled_by (entry_of c.entry-divisor.result (c.scale.ensures i)) (y i)))
    ∙ told-figure a.message a.payload.now a.number _ c.shape-shape.ensures (omega arith) (omega arith) _
    c.entry-divisor.ensures c.if-divisor-eq0.false
