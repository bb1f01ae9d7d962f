-- What the loop of `find` keeps.
-- What is sought from `from` on is what is sought from i on.
use Rattle.std.proofs.Common.{◌≡◌, ◌-◌, length}
use Rattle.search.specs.First.{first_from}
use Rattle.search.proofs.find.Given as goal

abbrev pub invariant-loop-i : goal.invariant-loop-i
invariant-loop-i l = first_from l.b l.fn.from l.a ≡ first_from l.b l.i l.a

abbrev pub decreases-loop-i : goal.decreases-loop-i
decreases-loop-i l = length l.a - l.i
