-- The league's two rules for a failed shot, of its speed, its flight time and its carry: each rule once, for D4, for E8 and for raw numbers.
-- They speak of any three floats, also of ones that no payload gives; one that is not a number fails wherever a rule asks it.
use Rattle.std.specs.Prelude.{ℕ, ◌≡◌, Bool, true, false, ◌||◌, cond, [], ◌∷◌, eqb, ℤ, pos, Float}
use Rattle.std.specs.Float.{nan}
use Rattle.std.specs.Float.Ieee.{is_nan, le, lt}
use Rattle.std.specs.Int.Signed.{le_z, lt_z}
use Rattle.general.specs.Number.{zero_float}
use Rattle.error.specs.Refusal.{Told, yes, no}
use Rattle.failure.specs.declared.LeagueRule.{LeagueRule}
use Rattle.failure.specs.declared.LeagueRule.TheVariants.{Rule1, Rule2}

-- what each rule asks, given what 'at most zero' and 'below zero' mean of a figure
unfoldable pub fails : {A : Type 0} → (A → Bool) → (A → Bool) → LeagueRule → A → A → A → Bool
fails at_most below Rule1 speed time carry = at_most speed
fails at_most below Rule2 speed time carry = at_most speed || at_most time || below carry

-- ---- of floats

-- not a number, or at most zero
abbrev pub at_most_zero : Float → Bool
at_most_zero v = is_nan v || le v zero_float

-- not a number, or below zero
abbrev pub below_zero : Float → Bool
below_zero v = is_nan v || lt v zero_float

abbrev pub failed_by : LeagueRule → Float → Float → Float → Bool
failed_by = fails at_most_zero below_zero

-- where the other figures are above zero
module _ (x : Float) (above : at_most_zero x ≡ false) where
  zero-carry-passes : failed_by Rule2 x x zero_float ≡ false
  unfolding fails is_nan le
  zero-carry-passes = simp above

  zero-time-fails : failed_by Rule2 x zero_float x ≡ true
  unfolding fails is_nan le
  zero-time-fails = simp above

  nan-carry-fails : failed_by Rule2 x x nan ≡ true
  unfolding fails is_nan le
  nan-carry-fails = simp above

  rule-1-asks-the-speed-alone : failed_by Rule1 x nan nan ≡ false
  unfolding fails
  rule-1-asks-the-speed-alone = above

-- ---- of raw whole numbers

abbrev pub raw_failed : LeagueRule → ℤ → ℤ → ℤ → Bool
raw_failed = fails (λ z. le_z z (pos 0)) (λ z. lt_z z (pos 0))

-- ---- a rule by its number

-- 1 or 2; any other number is refused with 11 and itself
unfoldable pub rule_numbered : ℕ → Told LeagueRule
rule_numbered k = cond (eqb k 1) (yes Rule1) (cond (eqb k 2) (yes Rule2) (no 11 (k ∷ [])))
