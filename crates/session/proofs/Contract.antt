-- What the code is proved to ensure, as the check reads it off src/ (`Post`), is what a run of the program asks of each call.
-- So the theorems of proofs/Printed, which are about all runs, are about the code.
use Rattle.std.proofs.Common.{◌≡◌, ℕ, ◌≤◌, List, ◌∷◌, ◌++◌, length, refl, ap, arith}
use Rattle.error.specs.Result.{told}
use Rattle.report.proofs.end_line.Reads as end_line
use Rattle.session.specs.declared.Session.{Session}
use Rattle.session.specs.Piece.{Stage, stage, room_for, front_of}
use Rattle.session.specs.Program.{first, Pieces, piece, Run}
use Rattle.session.proofs.Session.new.Reads as new
use Rattle.session.proofs.Session.piece.Reads as session-piece
use Rattle.session.proofs.text_of.Reads as text_of

-- A new session stands before the first piece, whatever the hold buffer holds.
pub new-first : (κs a r x : _) → new.Post κs a r x → (h : List ℕ) → stage r h ≡ first h
new-first κs a r x e h = ap (λ (s : Session). stage s h) e

-- A call of `piece` with the arguments a (the session, the hold buffer, the piece, the buffer of lines), its reply r and
-- the arguments x at exit is the next call of a run, where the buffer of lines has the room that the piece asks for.
pub piece-next : (κs a r x : _) → session-piece.Post κs a r x → {cs : List (List ℕ)} {text : List ℕ} {t : Stage}
    → room_for (length a.1.1.0.now) ≤ length a.1.1.1.0.now → Pieces (stage x.0.now x.1.0.now) cs text t
    → Pieces (stage a.0.now a.1.0.now) (a.1.1.0.now ∷ cs) (front_of (told r) x.1.1.1.0.now ++ text) t
piece-next κs a r x e room rest = piece a.1.1.1.0.now r x.0.now x.1.0.now x.1.1.1.0.now room e rest

-- A call of `text_of` with a reply and the buffer of lines gives the bytes that the run has printed.
pub text-printed : (κs a r x : _) → text_of.Post κs a r x → r.now ≡ front_of (told a.0) a.1.0.now
text-printed κs a r x e = e.0

-- A call of `end_line` with the splitter's count and mark, behind the pieces, ends the run.
pub end_whole : (κs a r x : _) → end_line.Post κs a r x → {h : List ℕ} {cs : List (List ℕ)} {text : List ℕ} {t : Stage} → Pieces (first h) cs text t
    → a.0 ≡ t.session.splitter.count → a.1.0 ≡ t.session.splitter.skipping → 128 ≤ length a.1.1.0.now
    → Run h cs (text ++ front_of (told r) x.1.1.0.now)
end_whole κs a r x e {t = t} c count mark room =
    record {
      text = _;
      stage = t;
      pieces = c;
      out = a.1.1.0.now;
      reply = r;
      out' = x.1.1.0.now;
      room = room;
      last = rw (count, mark) at e;
      whole = refl;
    }

-- The program's buffers: a piece of 8,192 bytes at most, and 1,048,576 bytes for its lines.
pub room-enough : (c out : List ℕ) → length c ≤ 8192 → length out ≡ 1048576 → room_for (length c) ≤ length out
room-enough c out l e = omega arith
