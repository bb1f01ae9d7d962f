-- Document 01, 'Messages': a field asked for by number answers a count, a scaled figure or a refusal.
-- Too short is told first (7), then a number that the message does not have (11).
use Rattle.std.specs.Prelude.{ℕ, cond, List, [], ◌∷◌, ltb, length, ℤ, Float}
use Rattle.error.specs.Refusal.{Told, yes, no}
use Rattle.numbers.specs.declared.Message.{Message}
use Rattle.numbers.specs.declared.Field.{Field}
use Rattle.numbers.specs.declared.Field.TheVariants.{Count, Figure, PayloadTooShort, NoField}
use Rattle.numbers.specs.Numbers.{Rule, count, hundredths, thousandths, millionths, scaled, shape_of, count_of, rule_of, whole_of, figure_of}

-- a count stays whole; all else is a figure
pub data Number : Type 0 where
  whole : ℤ → Number
  figure : Float → Number

abbrev pub told_field : Field → Told Number
told_field (Count z) = yes (whole z)
told_field (Figure x) = yes (figure x)
told_field (PayloadTooShort kind need got) = no 7 (kind ∷ need ∷ got ∷ [])
told_field (NoField number) = no 11 (number ∷ [])

abbrev pub shown_by : Rule → ℤ → Float → Number
shown_by count z x = whole z
shown_by hundredths z x = figure x
shown_by thousandths z x = figure x
shown_by millionths z x = figure x
shown_by scaled z x = figure x

-- number n of a message
unfoldable pub number_at : Message → List ℕ → ℕ → Number
number_at m p n = shown_by (rule_of m n) (whole_of m p n) (figure_of m p n)

unfoldable pub field_rule : Message → List ℕ → ℕ → Told Number
field_rule m p n =
    cond (ltb (length p) (shape_of m).least) (no 7 ((shape_of m).kind ∷ (shape_of m).least ∷ length p ∷ []))
    (cond (ltb n (count_of m)) (yes (number_at m p n)) (no 11 (n ∷ [])))
