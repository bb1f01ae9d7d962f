-- The loop's invariant: cutting the back of the first i bytes cuts the back of all.
-- It ends at a byte that is kept, or at the start.
use Rattle.std.proofs.Common.{◌≡◌, ◌≤◌, length, take}
use Rattle.shot_text.specs.Trim.{cut_back}
use Rattle.shot_text.proofs.end_of.Given as goal

abbrev pub invariant-loop-i : goal.invariant-loop-i
invariant-loop-i l = (l.i ≤ length l.payload) × (cut_back (take l.i l.payload) ≡ cut_back l.payload)
