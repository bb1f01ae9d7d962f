-- Document 01, 'Messages': decoding D4, E8 or ED, one rule for the three.
-- Too short is refused with 7, and beside the refusal every number of the record is zero.
use Rattle.std.specs.Prelude.{ℕ, ◌+◌, cond, List, ltb, length, get_or, ℤ, pos, Float}
use Rattle.general.specs.Number.{zero_float}
use Rattle.error.specs.Refusal.{Told}
use Rattle.layout.specs.Layout.{answered, row}
use Rattle.numbers.specs.declared.Message.{Message}
use Rattle.numbers.specs.Numbers.{shape_of, whole_of, figure_of}

-- what a record is made of: bytes by place, whole numbers and figures by number
pub record Numbers : Type 0 where
  pub byte : ℕ → ℕ
  pub whole : ℕ → ℤ
  pub figure : ℕ → Float

-- k of them, from number n on
abbrev pub run : {A : Type 0} → ℕ → (ℕ → A) → ℕ → List A
run k f n = row k (λ j. f (n + j))

-- those of a payload
abbrev pub numbers_of : Message → List ℕ → Numbers
numbers_of m p = record { byte = λ at. get_or p at 0; whole = whole_of m p; figure = figure_of m p }

-- every number zero, the floats +0.0
abbrev pub zeros : Numbers
zeros = record { byte = λ at. 0; whole = λ n. pos 0; figure = λ n. zero_float }

-- the reply, and the record beside it
unfoldable pub decode_rule : {A : Type 0} → Message → (Numbers → A) → List ℕ → Told Unit × A
decode_rule m fill p =
    (answered (shape_of m).kind (shape_of m).least p, fill (cond (ltb (length p) (shape_of m).least) zeros (numbers_of m p)))
