-- Before the first piece: a new splitter, and a hold buffer of zeros.
-- So the splitter is one that calls of `take_all` lead to, none of them.
use Rattle.std.proofs.Common.{◌≡◌, replicate, sym, subst}
use Rattle.splitter.specs.declared.FrameSplitter.{FrameSplitter}
use Rattle.splitter.specs.Feed.{new}
use Rattle.line_noise.proofs.Reached.{starts}
use Rattle.noise.specs.Line.{Between}
use Rattle.noise.proofs.count_all.Goals as goal

fresh : {s : FrameSplitter} → s ≡ new → Between s (replicate 2048 0)
fresh e = subst (λ (s : FrameSplitter). Between s (replicate 2048 0)) (sym e) (starts (replicate 2048 0))

pub invariant_of-line : goal.invariant_of-line
invariant_of-line c = record { between = ∣ fresh c.new.ensures ∣₁ }

pub read_all-requires : goal.read_all-requires
read_all-requires c = fresh c.new.ensures
