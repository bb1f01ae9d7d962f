-- The loop's invariant: the word stands at no place passed so far.
-- Past the last place where it fits it stands nowhere.
use Rattle.std.proofs.Common.{ℕ, ◌<◌}
use Rattle.shot_text.specs.Search.{StandsAt}
use Rattle.shot_text.proofs.contains.Given as goal

abbrev pub invariant-loop-k : goal.invariant-loop-k
invariant-loop-k l = (j : ℕ) → j < l.k → StandsAt l.word l.text j → ⊥
