-- Only private contracts cite this, and a client may skip it: one event's line at the front of a buffer, and the number behind it.
-- `piece_rule` is the whole; these are its steps.
use Rattle.std.specs.Prelude.{◌≡◌, ℕ, ◌≤◌, List, ◌++◌, length, drop}
use Rattle.stream.specs.Stream.{Said}
use Rattle.session.specs.declared.Session.{Session}
use Rattle.session.specs.Lines.{number_to}

-- a text at a buffer's front: n bytes, and the rest is kept
pub record Wrote (text old : List ℕ) (n : ℕ) (new : List ℕ) : Type 0 where
  pub count : n ≡ length text
  pub bytes : new ≡ text ++ drop (length text) old
  pub short : length text ≤ 128

-- behind an answer: the splitter as it is, and the next event's number
abbrev pub numbered : Session → Said → Session
numbered s a = record s { number = number_to s.number a }
