-- What the program prints: the lines of each piece that it reads, then the line at the end. No contract can speak of standard output;
-- here stand its calls in order, each with any reply and any buffers at exit that the contract of the function called allows.
use Rattle.std.specs.Prelude.{◌≡◌, ℕ, ◌≤◌, List, [], ◌∷◌, ◌++◌, length}
use Rattle.std.specs.Prelude.{Result}
use Rattle.error.specs.Result.{told}
use Rattle.splitter.specs.Feed.{new}
use Rattle.report.specs.Line.{end_text, Lined}
use Rattle.error.specs.declared.WireError.{WireError}
use Rattle.session.specs.declared.Session.{Session}
use Rattle.session.specs.Piece.{Stage, stage, room_for, piece_rule, done_by, front_of}

-- before the first piece
abbrev pub first : List ℕ → Stage
first hold = stage (record { splitter = new; number = 0 }) hold

-- Calls of `Session::piece` over pieces, from a stage to a stage, and the text that is printed. A call is lent the buffer `out`, whatever
-- it holds, with the room that the piece c asks for. Its reply r, the session s and the buffers h and out' at exit are any that its
-- contract allows;
-- then what the reply says is printed (`text_of`), and only the next call touches the hold buffer.
pub data Pieces : Stage → List (List ℕ) → List ℕ → Stage → Type 0 where
  done : {t : Stage} → Pieces t [] [] t
  piece : {t t' : Stage} {c : List ℕ} {cs : List (List ℕ)} {text : List ℕ} (out : List ℕ) (r : Result ℕ WireError) (s : Session) (h out' : List ℕ)
      → room_for (length c) ≤ length out
      → done_by r s h out' ≡ piece_rule t c out
      → Pieces (stage s h) cs text t'
      → Pieces t (c ∷ cs) (front_of (told r) out' ++ text) t'

-- some such calls, from fresh, lead to a stage
pub record Reached (hold : List ℕ) (t : Stage) : Type 0 where
  pub cs : List (List ℕ)
  pub text : List ℕ
  pub pieces : Pieces (first hold) cs text t

-- The whole run, from fresh, with a hold buffer: the pieces cs, then the line at the end, in a buffer of 128 bytes or more.
pub record Run (hold : List ℕ) (cs : List (List ℕ)) (printed : List ℕ) : Type 0 where
  pub text : List ℕ
  pub stage : Stage
  pub pieces : Pieces (first hold) cs text stage
  pub out : List ℕ
  pub reply : Result ℕ WireError
  pub out' : List ℕ
  pub room : 128 ≤ length out
  pub last : Lined (end_text stage.session.splitter.count stage.session.splitter.skipping) out (told reply) out'
  pub whole : printed ≡ text ++ front_of (told reply) out'
