-- `count`: a step that gives a byte counts one more, and the rest unstuffs to what is left.
-- A step takes one byte or two.
use Rattle.std.proofs.Common.{◌≡◌, ℕ, ◌+◌, List, length, get_or, drop, sym, refl, ap, ◌∙◌, arith}
use Rattle.error.specs.Refusal.{Told, yes, no, on_yes}
use Rattle.unstuffing.specs.Private.{width_of}
use Rattle.unstuffing.specs.Unstuff.{after, unstuff}
use Rattle.unstuffing.proofs.Unstuffing.{width-most, unstuff-at}
use Rattle.unstuffing.proofs.count.Goals as goal

abbrev counted : ℕ → Told (List (ℕ × ℕ)) → Told ℕ
counted n t = on_yes (λ us. n + length us) t

one_more : (n i v : ℕ) (t : Told (List (ℕ × ℕ))) → counted n (after i (yes v) t) ≡ counted (n + 1) t
one_more n i v (yes us) = ap yes (omega arith)
one_more n i v (no k vs) = refl

pub loop-i-preserved : goal.loop-i-preserved
loop-i-preserved c =
    let s = c.args.s.now in
    let i = c.loop-i.i in
    let n = c.loop-i.n in
    let rest = unstuff (i + width_of (get_or s i 0)) (drop (i + width_of (get_or s i 0)) s) in (
      omega (arith, c.select.ensures, width-most (get_or s i 0)),
      rw c.select.ensures
          (sym (one_more n i _ rest)
          ∙ ap (λ (t : Told ℕ). counted n (after i t rest)) c.in_ok-step.ensures
          ∙ ap (counted n) (sym (unstuff-at s i c.loop-i-test.true))
          ∙ c.loop-i.invariant.1),
    )
