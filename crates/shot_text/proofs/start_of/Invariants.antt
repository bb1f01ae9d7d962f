-- The loop's invariant: cutting the front from `start` on cuts the front of all.
-- It ends at a byte that is kept, or at the end.
use Rattle.std.proofs.Common.{◌≡◌, drop}
use Rattle.shot_text.specs.Trim.{cut_front}
use Rattle.shot_text.proofs.start_of.Given as goal

abbrev pub invariant-loop-start : goal.invariant-loop-start
invariant-loop-start l = cut_front (drop l.start l.text) ≡ cut_front l.text
