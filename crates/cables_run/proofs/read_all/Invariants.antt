-- `read_all` meets its contract: no more came than there is room, which keeps its length.
-- The measure is the room that is left: each turn but the last brings a byte.
use Rattle.std.proofs.Common.{◌≡◌, ◌-◌, ◌≤◌, length}
use Rattle.cables_run.proofs.read_all.Given as goal

abbrev pub invariant-loop-len : goal.invariant-loop-len
invariant-loop-len l = (l.len ≤ length l.room) × (length l.room ≡ length l.initial.room)

abbrev pub decreases-loop-len : goal.decreases-loop-len
decreases-loop-len l = length l.room - l.len
