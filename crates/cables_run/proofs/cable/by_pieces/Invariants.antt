-- `by_pieces` is safe and ends: what is left is a part of the capture, and each piece has a byte at least.
use Rattle.std.proofs.Common.{◌≤◌, length}
use Rattle.cables_run.proofs.cable.by_pieces.Given as goal

abbrev pub invariant-loop-rest : goal.invariant-loop-rest
invariant-loop-rest l = length l.rest ≤ length l.capture

abbrev pub decreases-loop-rest : goal.decreases-loop-rest
decreases-loop-rest l = length l.rest
