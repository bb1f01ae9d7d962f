-- The loop's invariant: the word's bytes passed so far are the text's.
-- At the first byte that differs it does not stand there.
use Rattle.std.proofs.Common.{◌≡◌, ℕ, ◌+◌, ◌<◌, get_or}
use Rattle.shot_text.proofs.stands_at.Given as goal

abbrev pub invariant-loop-i : goal.invariant-loop-i
invariant-loop-i l = (j : ℕ) → j < l.i → get_or l.text (l.k + j) 0 ≡ get_or l.word j 0
