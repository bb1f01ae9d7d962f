-- A turn stores three figures behind those that stand.
-- After 12 turns the list is the row, by the divisor that is the entry of the rule.
use Rattle.std.proofs.Common.{◌≡◌, ℕ, ℤ, ◌+◌, ◌*◌, ◌∙◌, ap, w32, arith}
use Rattle.std.specs.Float.{nan}
use Rattle.integer.specs.Fields.{scaled_by}
use Rattle.layout.specs.Layout.{row}
use Rattle.layout.proofs.Held.{held}
use Rattle.numbers.specs.Numbers.{whole_of, entry_of}
use Rattle.flight.proofs.Row.{Filled, filled-three, filled_is}
use Rattle.flight.proofs.figures.Payload.coefficients.Invariants.{placed}
use Rattle.flight.proofs.figures.Payload.coefficients.Goals as goal

pub loop-k-preserved : goal.loop-k-preserved
loop-k-preserved c =
    let n = c.args.number in
    let p = c.args.self.now in
    let k = c.loop-k.k in
    let by = λ (z : ℤ). scaled_by (entry_of c.divisor-divisor.result p.scale) z in
    let at = λ (j : ℕ). by (whole_of p.message p.bytes.now j) in
    let one : n + 3 * k + 1 ≡ n + (3 * k + 1) = omega arith in
    let two : n + 3 * k + 2 ≡ n + (3 * k + 2) = omega arith in
    let all : Filled (placed p.message p.bytes.now n c.divisor-divisor.result p.scale) nan 36 (3 * k + 3) _ =
    filled-three _ nan c.loop-k.invariant (omega arith)
    (c.figure.ensures ∙ ap by (held w32 c.whole.ensures c.whole.type_inv))
    (c.figure-in-loop-k.ensures ∙ ap by (held w32 c.whole-in-loop-k.ensures c.whole-in-loop-k.type_inv) ∙ ap at one)
    (c.figure-in-loop-k-2.ensures ∙ ap by (held w32 c.whole-in-loop-k-2.ensures c.whole-in-loop-k-2.type_inv) ∙ ap at two) in
    let turn : 3 * k + 3 ≡ 3 * (k + 1) = omega arith in
    rw turn at all

pub returns : goal.returns
returns c =
    let p = c.args.self.now in
    let done : 3 * c.loop-k.k ≡ 36 = omega arith in
    let all : Filled (placed p.message p.bytes.now c.args.number c.divisor-divisor.result p.scale) nan 36 36 _ = rw done at c.loop-k.invariant in
    filled_is _ nan all ∙ ap (λ (d : ℕ). row 36 (placed p.message p.bytes.now c.args.number d p.scale)) c.divisor-divisor.ensures
