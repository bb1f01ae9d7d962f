-- `least_rank` meets its contract: where no byte so far has a code, they stuff to themselves.
-- That is the loop's invariant: a least rank above 0 is above 0 for each byte.
use Rattle.std.proofs.Common.{◌≡◌, ◌≤◌, take}
use Rattle.stuffing.specs.Stuff.{stuff}
use Rattle.encoding.proofs.ranking.least_rank.Given as goal

abbrev pub invariant-loop-b : goal.invariant-loop-b
invariant-loop-b l = 1 ≤ l.least → stuff (take l.b-index l.block) ≡ take l.b-index l.block
