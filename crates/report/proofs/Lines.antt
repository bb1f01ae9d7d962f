-- A whole line: refused where it does not fit, else put at the buffer's front.
-- Then how the words of a line join.
use Rattle.std.proofs.Common.{ℕ, ◌<◌, ◌≤◌, List, [], ◌∷◌, ◌++◌, length, drop, le-leb}
use borrow.Author.Tests.{lt-leb}
use Rattle.error.specs.Refusal.{yes, no}
use Rattle.report.specs.Line.{fitted, Lined}

module _ (text old : List ℕ) (short : length text ≤ 128) where
  pub refused_line : length old < length text → Lined text old (no 8 (length text ∷ length old ∷ [])) old
  unfolding fitted
  refused_line h = record { reply = rw (lt-leb _ _ h); bytes = rw (lt-leb _ _ h); short = short }

  pub put_line : length text ≤ length old → Lined text old (yes (length text)) (text ++ drop (length text) old)
  unfolding fitted
  put_line h = record { reply = rw (le-leb _ _ h); bytes = rw (le-leb _ _ h); short = short }
