-- The loop of `copy`: what is written, and what the bytes that are left stand for, are what the whole stands for.
-- It goes sixteen bytes to a turn.
use Rattle.std.proofs.Common.{◌≡◌, ◌+◌, ◌≤◌, ◌++◌, length, take}
use Rattle.frame.specs.Private.{raw, slots}
use Rattle.frame.proofs.copying.copy.Given as goal

abbrev pub invariant-loop-block : goal.invariant-loop-block
invariant-loop-block l =
    (l.o + slots l.rest ≤ length l.fn.buf)
    × (take l.o l.buf ++ raw l.before l.rest ≡ raw 0 l.s)
    × (length l.buf ≡ length l.fn.buf)

abbrev pub decreases-loop-block : goal.decreases-loop-block
decreases-loop-block l = length l.rest
