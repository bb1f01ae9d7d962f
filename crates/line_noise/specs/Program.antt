-- What the program `noise` prints: at the end of the input a line for each of the five counts. No contract can speak of standard output;
-- here stand its calls in order, each with any reply and any buffer at exit that the contract of the function called allows.
use Rattle.std.specs.Prelude.{ℕ, ◌≤◌, ◌≡◌, List, [], ◌∷◌, ◌++◌, length}
use Rattle.std.specs.Prelude.{Result}
use Rattle.error.specs.declared.WireError.{WireError}
use Rattle.error.specs.Refusal.{yes, no}
use Rattle.error.specs.Result.{told}
use Rattle.splitter.specs.declared.Counts.{Counts}
use Rattle.splitter.specs.declared.FrameSplitter.{FrameSplitter}
use Rattle.splitter.specs.Feed.{new}
use Rattle.report.specs.declared.Count.{Count}
use Rattle.report.specs.declared.Count.TheVariants.{Taken, Dropped, Framed, Lost, Held}
use Rattle.report.specs.Line.{count_text, Lined}
use Rattle.session.specs.Piece.{front_of}
use Rattle.line_noise.specs.Piece.{Between, between, take_rule, outcome_of}

-- before the first piece
abbrev pub first : List ℕ → Between
first hold = between new hold

-- Calls of `take_all` over pieces that are not refused. A call's reply r, and the splitter s and the hold buffer h at exit, are any that
-- its contract allows, and only the next call touches them.
pub data Pieces : Between → List (List ℕ) → Between → Type 0 where
  done : {t : Between} → Pieces t [] t
  piece : {t t' : Between} {c : List ℕ} {cs : List (List ℕ)} (r : Result Unit WireError) (s : FrameSplitter) (h : List ℕ)
      → outcome_of r s h ≡ take_rule t c
      → told r ≡ yes tt
      → Pieces (between s h) cs t'
      → Pieces t (c ∷ cs) t'

-- some such calls, from fresh, lead there
pub record Reached (hold : List ℕ) (t : Between) : Type 0 where
  pub cs : List (List ℕ)
  pub pieces : Pieces (first hold) cs t

-- what is printed: each count by its name, in the request's order
pub record Shown : Type 0 where
  pub which : Count
  pub number : ℕ

abbrev pub shown : Count → ℕ → Shown
shown w n = record { which = w; number = n }

abbrev pub in_order : Counts → List Shown
in_order k =
    shown Taken k.taken ∷ shown Dropped k.dropped ∷ shown Framed k.framed ∷ shown Lost k.lost ∷ shown Held k.held ∷ []

abbrev pub text_over : List Shown → List ℕ
text_over [] = []
text_over (s ∷ l) = count_text s.which s.number ++ text_over l

-- the five lines
abbrev pub noise_text : Counts → List ℕ
noise_text k = text_over (in_order k)

-- Calls of `count_line`, each in a buffer of 128 bytes or more, and what its reply says is printed (session: `text_of`).
pub data Lines : List Shown → List ℕ → Type 0 where
  none : Lines [] []
  line : {s : Shown} {l : List Shown} {text : List ℕ} (out : List ℕ) (reply : Result ℕ WireError) (out' : List ℕ) → 128 ≤ length out
      → Lined (count_text s.which s.number) out (told reply) out'
      → Lines l text
      → Lines (s ∷ l) (front_of (told reply) out' ++ text)

-- The whole run over the pieces, from fresh: all are taken, and the counts printed; or one is refused, and nothing is.
pub data Run (hold : List ℕ) : List (List ℕ) → List ℕ → Type 0 where
  whole : {cs : List (List ℕ)} {printed : List ℕ} {t : Between} → Pieces (first hold) cs t → Lines (in_order t.splitter.counts) printed
      → Run hold cs printed
  stopped : {cs : List (List ℕ)} {t : Between} {k : ℕ} {vs : List ℕ} (c : List ℕ) (rest : List (List ℕ)) (r : Result Unit WireError)
      (s : FrameSplitter) (h : List ℕ)
      → Pieces (first hold) cs t
      → outcome_of r s h ≡ take_rule t c
      → told r ≡ no k vs
      → Run hold (cs ++ (c ∷ rest)) []
