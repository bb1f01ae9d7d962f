-- A message by its type byte, where its numbers end, and how a number is shown:
-- whole where its rule's code is 0, as a figure otherwise.
use mathlib.Core.Path.{◌≡◌, refl}
use Prim.Native.Nat.{◌+◌, ◌*◌, ◌<◌}
use native.Mathlib.Omega.{arith}
use lib.IntN.{ℤ}
use lib.Ieee.{Float}
use Rattle.error.specs.Refusal.{yes}
use Rattle.numbers.specs.declared.Message.{Message}
use Rattle.numbers.specs.declared.Message.TheVariants.{FlightResult, FlightResultV1, ClubResult}
use Rattle.numbers.specs.Numbers.{rule_code, shape_of, message_rule, count_of, Rule, count, hundredths, thousandths, millionths, scaled}
use Rattle.numbers.specs.Asked.{shown_by, whole, figure}

-- ---- the shapes

-- a message's own type byte names it again
pub named : (m : Message) → message_rule (shape_of m).kind ≡ yes m
unfolding message_rule
named FlightResult = refl
named FlightResultV1 = refl
named ClubResult = refl

-- a message that is long enough has all its numbers, and nothing behind them is asked for
pub full : (m : Message) → (shape_of m).least ≡ (shape_of m).base + 3 * count_of m
full FlightResult = refl
full FlightResultV1 = refl
full ClubResult = refl

pub scale-inside : (m : Message) → (shape_of m).scale < count_of m
scale-inside FlightResult = omega arith
scale-inside FlightResultV1 = omega arith
scale-inside ClubResult = omega arith

pub small : (m : Message) → ((shape_of m).base < 3) × (count_of m < 56)
small FlightResult = omega arith
small FlightResultV1 = omega arith
small ClubResult = omega arith

-- ---- the code of a rule

pub counted : (r : Rule) (z : ℤ) (x : Float) → rule_code r ≡ 0 → shown_by r z x ≡ whole z
counted count z x e = refl
counted hundredths z x e = absurd (omega arith)
counted thousandths z x e = absurd (omega arith)
counted millionths z x e = absurd (omega arith)
counted scaled z x e = absurd (omega arith)

pub divided : (r : Rule) (z : ℤ) (x : Float) → (rule_code r ≡ 0 → ⊥) → shown_by r z x ≡ figure x
divided count z x e = absurd (e refl)
divided hundredths z x e = refl
divided thousandths z x e = refl
divided millionths z x e = refl
divided scaled z x e = refl
