-- Document 01, 'Messages': how the fields of a record are read, each by place, width and scale.
-- A table of fields is written in these words once, for a payload and for a refusal alike.
use Rattle.std.specs.Prelude.{ℕ, zero, suc, cond, List, [], ◌∷◌, ltb, length, get_or, take, ℤ, pos, Float}
use Rattle.std.specs.Float.{binary64}
use Rattle.std.specs.Float.Ieee.{of_int}
use Rattle.general.specs.Number.{zero_float}
use Rattle.error.specs.Refusal.{Told, yes, no}
use Rattle.error.specs.Result.{told}
use Rattle.integer.specs.Fields.{be_at, int_at, scaled_by}
use Rattle.layout.specs.declared.Decoded.{Decoded}

-- the byte at a place; the signed and the unsigned number of k bytes there; the signed one as a figure
pub record Source : Type 0 where
  pub byte : ℕ → ℕ
  pub int : ℕ → ℕ → ℤ
  pub uint : ℕ → ℕ → ℕ
  pub figure : (ℤ → Float) → ℕ → ℕ → Float

-- a figure is most often the number over a divisor, in one rounded division
abbrev pub over : ℕ → ℤ → Float
over d = scaled_by (of_int binary64 (pos d))

-- the fields of some bytes
abbrev pub fields_of : List ℕ → Source
fields_of p =
    record {
      byte = λ at. get_or p at 0;
      int = λ k at. int_at k p at;
      uint = λ k at. be_at k p at;
      figure = λ f k at. f (int_at k p at);
    }

-- every number zero, the floats +0.0
abbrev pub zeros : Source
zeros = record { byte = λ at. 0; int = λ k at. pos 0; uint = λ k at. 0; figure = λ f k at. zero_float }

-- a message that wants so many bytes: the answer, and what its record is read from, the first so many
unfoldable pub answered : ℕ → ℕ → List ℕ → Told Unit
answered kind least p = cond (ltb (length p) least) (no 7 (kind ∷ least ∷ length p ∷ [])) (yes tt)

unfoldable pub source_of : ℕ → List ℕ → Source
source_of least p = cond (ltb (length p) least) zeros (fields_of (take least p))

-- the record beside the answer: nothing where the message is too short, else what its bytes fill
unfoldable pub record_of : {A : Type 0} → ℕ → (List ℕ → A) → A → List ℕ → A
record_of least filled nothing p = cond (ltb (length p) least) nothing (filled p)

-- n values in a row
abbrev pub row : {A : Type 0} → ℕ → (ℕ → A) → List A
row zero f = []
row (suc n) f = f 0 ∷ row n (λ k. f (suc k))

-- what a decoder tells, and the record beside it
abbrev pub told_decoded : {A : Type 0} → Decoded A → Told Unit × A
told_decoded d = (told d.result, d.«record»)
