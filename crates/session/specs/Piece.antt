-- One piece of the input: the splitter is fed until all of it is taken, and each event's line is put behind the last.
-- The rule fixes the reply, the session, and every byte of the two lent buffers.
use Rattle.std.specs.Prelude.{ℕ, zero, suc, ◌-◌, ◌*◌, ◌^◌, min, cond, List, [], ◌∷◌, ◌++◌, length, take, drop, nat_le, nat_lt}
use Rattle.std.specs.Prelude.{Result}
use Rattle.error.specs.declared.WireError.{WireError}
use Rattle.error.specs.Refusal.{Told, yes, no, on_yes, filled}
use Rattle.error.specs.Result.{told}
use Rattle.splitter.specs.Feed.{Given, feed_rule, is_bad, is_full}
use Rattle.stream.specs.Stream.{Said, said_of}
use Rattle.session.specs.declared.Session.{Session}
use Rattle.session.specs.Lines.{line_to, number_to}

-- where the work stands: the session and the hold buffer
pub record Stage : Type 0 where
  pub session : Session
  pub hold : List ℕ

abbrev pub stage : Session → List ℕ → Stage
stage s h = record { session = s; hold = h }

-- ---- one call of the splitter

abbrev pub fed : Stage → List ℕ → Given
fed t c = feed_rule t.session.splitter t.hold c

abbrev pub said : Stage → List ℕ → Said
said t c = said_of c (fed t c).hold (fed t c).answer

abbrev pub event_text : Stage → List ℕ → List ℕ
event_text t c = line_to t.session.number (said t c)

abbrev pub stage_after : Stage → List ℕ → Stage
stage_after t c = stage (record { splitter = (fed t c).state; number = number_to t.session.number (said t c) }) (fed t c).hold

-- ---- the whole piece

pub record Work : Type 0 where
  pub text : List ℕ
  pub stage : Stage

abbrev pub work : List ℕ → Stage → Work
work l t = record { text = l; stage = t }

abbrev pub behind : List ℕ → Work → Work
behind l w = work (l ++ w.text) w.stage

-- what is not yet taken is fed again, k times at most
unfoldable pub works : ℕ → Stage → List ℕ → Work
works zero t c = work [] t
works (suc k) t [] = work [] t
works (suc k) t (b ∷ c) = behind (event_text t (b ∷ c)) (works k (stage_after t (b ∷ c)) (drop (fed t (b ∷ c)).taken (b ∷ c)))

-- the room asked for: 128 bytes for each byte of the piece, which can end one event at most; the largest usize where that passes it
abbrev pub room_for : ℕ → ℕ
room_for n = min (128 * n) (2 ^ 64 - 1)

-- what a call fixes: the reply, the stage, and the buffer of lines
pub record Done : Type 0 where
  pub reply : Told ℕ
  pub stage : Stage
  pub out : List ℕ

abbrev pub done : Told (List ℕ) → Stage → List ℕ → Done
done text t out = record { reply = on_yes length text; stage = t; out = filled text out }

abbrev pub done_by : Result ℕ WireError → Session → List ℕ → List ℕ → Done
done_by r s h out = record { reply = told r; stage = stage s h; out = out }

-- the lines of the whole piece
abbrev pub all_lines : Stage → List ℕ → List ℕ → Done
all_lines t c out = done (yes (works (length c) t c).text) (works (length c) t c).stage out

-- a state that no call gives (9), then more bytes than can be counted (13), then room for the lines (8); else all of the piece is taken
unfoldable pub piece_rule : Stage → List ℕ → List ℕ → Done
piece_rule t c out =
    cond (is_bad t.session.splitter (length t.hold)) (done (no 9 []) t out)
    (cond (is_full t.session.splitter (length c)) (done (no 13 []) t out)
    (cond (nat_lt (length out) (room_for (length c))) (done (no 8 (room_for (length c) ∷ length out ∷ [])) t out)
    (all_lines t c out)))

-- what is read back from a buffer of lines: the bytes that a reply says were put, none where it is refused or does not fit
abbrev pub front_of : Told ℕ → List ℕ → List ℕ
front_of (yes n) out = cond (nat_le n (length out)) (take n out) []
front_of (no k vs) out = []
