-- A field asked for by C: which message is its type byte, and the answer lies in three places, a count's, a figure's and a mark.
-- The mark is 0 for a count and 1 for a figure; the place of the other is kept.
use Rattle.std.specs.Prelude.{ℕ, List, ℤ, Float}
use Rattle.error.specs.Refusal.{Told, on_yes, and_then}
use Rattle.numbers.specs.declared.Message.{Message}
use Rattle.numbers.specs.Numbers.{message_rule}
use Rattle.numbers.specs.Asked.{Number, whole, figure, field_rule}

abbrev pub Places : Type 0
Places = ℤ × Float × ℕ

-- a number in the places that held others
abbrev pub placed : Places → Number → Places
placed old (whole z) = (z, old.1, 0)
placed old (figure x) = (old.0, x, 1)

abbrev pub field_of : Message → List ℕ → ℕ → Places → Told Places
field_of m p n old = on_yes (placed old) (field_rule m p n)

-- a byte that is the type of no such message is told with 11, as a field that none has
unfoldable pub asked_of : ℕ → List ℕ → ℕ → Places → Told Places
asked_of b p n old = and_then (message_rule b) (λ m. field_of m p n old)
