-- The loop of `count`: the bytes that are passed and those that the rest unstuffs to make the whole count.
-- The first wrong escape is refused where the walk meets it.
use Rattle.std.proofs.Common.{◌≡◌, ◌+◌, ◌-◌, ◌≤◌, length, drop}
use Rattle.error.specs.Refusal.{on_yes}
use Rattle.unstuffing.specs.Unstuff.{unstuff}
use Rattle.unstuffing.proofs.count.Given as goal

abbrev pub invariant-loop-i : goal.invariant-loop-i
invariant-loop-i l =
    (l.n ≤ l.i) × (on_yes (λ us. l.n + length us) (unstuff l.i (drop l.i l.s)) ≡ on_yes length (unstuff 0 l.s))

abbrev pub decreases-loop-i : goal.decreases-loop-i
decreases-loop-i l = length l.s - l.i
