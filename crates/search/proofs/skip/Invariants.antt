-- What the loop of `skip` keeps.
-- A block from `last` on still fits, and what is sought from `from` on is what is sought from i on.
use Rattle.std.proofs.Common.{◌≡◌, ◌+◌, ◌-◌, ◌≤◌, length}
use Rattle.search.specs.First.{first_from}
use Rattle.search.proofs.skip.Given as goal

abbrev pub invariant-loop-i : goal.invariant-loop-i
invariant-loop-i l = (l.last + 16 ≤ length l.a) × (first_from l.b l.fn.from l.a ≡ first_from l.b l.i l.a)

abbrev pub decreases-loop-i : goal.decreases-loop-i
decreases-loop-i l = l.last + 16 - l.i
