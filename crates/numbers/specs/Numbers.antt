-- Document 01, 'Messages': the numbers of D4, E8 and ED, and what each is divided by.
-- A message's numbers are INT24 one after the other; each is a count, or is divided once.
use Rattle.std.specs.Prelude.{ℕ, ◌+◌, ◌*◌, Bool, cond, ◌||◌, ◌&&◌, List, [], ◌∷◌, eqb, leb, ℤ, pos, negsuc, Float}
use Rattle.std.specs.Float.{binary64}
use Rattle.std.specs.Float.Ieee.{of_int}
use Rattle.general.specs.Number.{nonzero}
use Rattle.error.specs.Refusal.{Told, yes, no}
use Rattle.integer.specs.Fields.{int_at, scaled_by}
use Rattle.numbers.specs.declared.Message.{Message}
use Rattle.numbers.specs.declared.Message.TheVariants.{FlightResult, FlightResultV1, ClubResult}
use Rattle.numbers.specs.declared.Shape.{Shape}

-- ---- the messages

-- the type byte, the least length, the place of number 0, how many numbers, the scale's number, and where the message's divisors start in the list
abbrev pub shape_of : Message → Shape
shape_of FlightResult = record { kind = 0xD4; least = 157; base = 1; count = 52; scale = 36; first = 0 }
shape_of FlightResultV1 = record { kind = 0xE8; least = 94; base = 1; count = 31; scale = 15; first = 52 }
shape_of ClubResult = record { kind = 0xED; least = 167; base = 2; count = 55; scale = 15; first = 83 }

-- the message of a type byte; any other byte is refused with 11 and itself
unfoldable pub message_rule : ℕ → Told Message
message_rule b =
    cond (eqb b 0xD4) (yes FlightResult)
    (cond (eqb b 0xE8) (yes FlightResultV1)
    (cond (eqb b 0xED) (yes ClubResult)
    (no 11 (b ∷ []))))

abbrev pub count_of : Message → ℕ
count_of m = (shape_of m).count

-- number n of a message, as it stands
unfoldable pub whole_of : Message → List ℕ → ℕ → ℤ
whole_of m p n = int_at 3 p ((shape_of m).base + 3 * n)

-- ---- what a number is divided by

-- a count is not divided; the others by a fixed number, or by the message's own scale
pub data Rule : Type 0 where
  count hundredths thousandths millionths scaled : Rule

abbrev pub to : ℕ → ℕ → ℕ → Bool
to a b n = leb a n && leb n b

unfoldable pub rule_of : Message → ℕ → Rule
rule_of FlightResult n =
    cond (eqb n 0 || to 14 19 n || eqb n 36) count
    (cond (to 1 13 n || to 20 35 n) thousandths
    scaled)
rule_of FlightResultV1 n =
    cond (eqb n 0 || eqb n 11 || eqb n 12 || eqb n 15) count
    (cond (eqb n 10) millionths
    (cond (to 1 9 n || eqb n 13 || eqb n 14) thousandths
    scaled))
rule_of ClubResult n =
    cond (eqb n 0 || eqb n 15) count
    (cond (to 1 6 n || to 9 12 n || to 52 54 n) hundredths
    (cond (eqb n 7 || eqb n 8 || eqb n 13 || eqb n 14) thousandths
    scaled))

-- a whole number as a float, exactly
abbrev pub float : ℤ → Float
float z = of_int binary64 z

-- the divisor of a rule, given the message's scale
abbrev pub divisor_of : Rule → Float → Float
divisor_of count s = float (pos 1)
divisor_of hundredths s = float (pos 100)
divisor_of thousandths s = float (pos 1000)
divisor_of millionths s = float (pos 1000000)
divisor_of scaled s = s

-- ---- the scale

-- anything below 1 becomes 1
abbrev pub at_least_one : ℤ → ℤ
at_least_one (pos n) = cond (eqb n 0) (pos 1) (pos n)
at_least_one (negsuc n) = pos 1

-- what the scale's number divides by; `nonzero` keeps a negative scale
abbrev pub scale_rule : Message → ℤ → ℤ
scale_rule FlightResult z = nonzero z
scale_rule FlightResultV1 z = at_least_one z
scale_rule ClubResult z = nonzero z

unfoldable pub scale_of : Message → List ℕ → Float
scale_of m p = float (scale_rule m (whole_of m p (shape_of m).scale))

-- ---- the figures

-- number n of a message as a figure: one rounded division
unfoldable pub figure_of : Message → List ℕ → ℕ → Float
figure_of m p n = scaled_by (divisor_of (rule_of m n) (scale_of m p)) (whole_of m p n)

-- ---- the list of divisors

-- how the list writes a rule: 0 for a count, 1 for the scale
abbrev pub rule_code : Rule → ℕ
rule_code count = 0
rule_code hundredths = 100
rule_code thousandths = 1000
rule_code millionths = 1000000
rule_code scaled = 1

-- the divisor that an entry of the list stands for
abbrev pub entry_of : ℕ → Float → Float
entry_of d s = cond (eqb d 1) s (float (pos d))
