-- What the loop of `lay` keeps: dst is its first self with the first i bytes of src pasted in.
-- At its end all of src is.
use Rattle.std.proofs.Common.{◌≡◌, length}
use Rattle.std.proofs.Math.Seq.{paste}
use Rattle.splitter.proofs.lay.Given as goal

abbrev pub invariant-loop-i : goal.invariant-loop-i
invariant-loop-i l = (l.dst ≡ paste l.initial.dst l.at l.src l.i) × (length l.dst ≡ length l.initial.dst)
