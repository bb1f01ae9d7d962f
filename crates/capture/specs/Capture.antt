-- Between two pieces of a capture: the session is one that calls of `piece` lead to, from fresh, with a hold buffer of zeros.
-- So the calls are those of a run (session: specs/Program).
use Rattle.std.specs.Prelude.{List, ℕ, replicate}
use Rattle.session.specs.declared.Session.{Session}
use Rattle.session.specs.Piece.{stage}
use Rattle.session.specs.Program.{Reached}

abbrev pub Between : Session → List ℕ → Type 0
Between s hold = Reached (replicate 2048 0) (stage s hold)
