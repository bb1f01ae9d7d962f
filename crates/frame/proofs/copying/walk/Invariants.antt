-- The loop of `walk`: what is written, and what the bytes that are left stand for, are what the whole stands for.
-- It goes one byte to a turn.
use Rattle.std.proofs.Common.{◌≡◌, ◌+◌, ◌≤◌, ◌++◌, length, take, drop}
use Rattle.unstuffing.specs.Private.{kept}
use Rattle.frame.specs.Private.{raw, slots}
use Rattle.frame.proofs.copying.walk.Given as goal

abbrev pub invariant-loop-b : goal.invariant-loop-b
invariant-loop-b l =
    let left = drop l.b-index l.s in
    (l.o + slots left ≤ length l.fn.buf)
    × (l.o + kept left ≡ l.at + kept l.s)
    × (take l.o l.buf ++ raw l.p left ≡ take l.at l.fn.buf ++ raw l.before l.s)
    × (length l.buf ≡ length l.fn.buf)
