-- What the code is proved to ensure, as the check reads it off src/ (`Post`), is what a run of the program asks of each call.
-- So the theorems of proofs/Printed, which are about all runs, are about the code.
use Rattle.std.proofs.Common.{◌≡◌, ap, List, [], ◌∷◌, ◌++◌, ℕ, ◌≤◌, length}
use Rattle.error.specs.Refusal.{yes, no}
use Rattle.error.specs.Result.{told}
use Rattle.splitter.specs.declared.FrameSplitter.{FrameSplitter}
use Rattle.splitter.proofs.FrameSplitter.new.Reads as new
use Rattle.report.proofs.count_line.Reads as count-line
use Rattle.session.specs.Piece.{front_of}
use Rattle.line_noise.specs.Piece.{Between, between}
use Rattle.line_noise.specs.Program.{first, Pieces, piece, Shown, shown, Lines, line, Run, stopped}
use Rattle.line_noise.proofs.take_all.Reads as take_all

-- A new splitter stands before the first piece, whatever the hold buffer holds.
pub new-first : (κs a r x : _) → new.Post κs a r x → (h : List ℕ) → between r h ≡ first h
new-first κs a r x e h = ap (λ (s : FrameSplitter). between s h) e

-- A call of `take_all` with the arguments a (the splitter, the hold buffer, the piece), its reply r and the arguments x at exit is the next
-- call of a run, where it is not refused; else the run ends, and prints nothing.
pub piece-next : (κs a r x : _) → take_all.Post κs a r x → told r ≡ yes tt → {cs : List (List ℕ)} {t : Between}
    → Pieces (between x.0.now x.1.0.now) cs t → Pieces (between a.0.now a.1.0.now) (a.1.1.0.now ∷ cs) t
piece-next κs a r x e y rest = piece r x.0.now x.1.0.now e y rest

pub piece-stops : (κs a r x : _) → take_all.Post κs a r x → {k : ℕ} {vs : List ℕ} → told r ≡ no k vs → {h : List ℕ} {cs : List (List ℕ)}
    (rest : List (List ℕ)) → Pieces (first h) cs (between a.0.now a.1.0.now) → Run h (cs ++ (a.1.1.0.now ∷ rest)) []
piece-stops κs a r x e z rest p = stopped a.1.1.0.now rest r x.0.now x.1.0.now p e z

-- A call of `count_line` with a count, its number and a buffer of 128 bytes or more is the next line of a run, before those after it.
pub line-next : (κs a r x : _) → count-line.Post κs a r x → 128 ≤ length a.1.1.0.now → {l : List Shown} {text : List ℕ} → Lines l text
    → Lines (shown a.0 a.1.0 ∷ l) (front_of (told r) x.1.1.0.now ++ text)
line-next κs a r x e room rest = line a.1.1.0.now r x.1.1.0.now room e rest
