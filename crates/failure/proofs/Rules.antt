-- A shot failed by rule 1 is failed by rule 2, whatever its three figures are and whatever they are figures of.
-- And of figures that are whole numbers in thousandths each rule is a test of the whole numbers.
use mathlib.Core.Path.{◌≡◌, ap}
use mathlib.Core.Bool.{Bool, true, ◌||◌}
use lib.IntN.{ℤ}
use Rattle.failure.specs.declared.LeagueRule.{LeagueRule}
use Rattle.failure.specs.declared.LeagueRule.TheVariants.{Rule1, Rule2}
use Rattle.failure.specs.League.{fails, failed_by, raw_failed}
use Rattle.failure.proofs.Sign.{in_thousandths, at-most-is, below-is}

module _ {A : Type 0} (at_most below : A → Bool) where
  pub stays-failed : (speed time carry : A) → fails at_most below Rule1 speed time carry ≡ true → fails at_most below Rule2 speed time carry ≡ true
  unfolding fails
  stays-failed speed time carry e = ap (λ (b : Bool). b || at_most time || below carry) e

module _ (speed time carry : ℤ) where
  pub by-raw : (rule : LeagueRule) → failed_by rule (in_thousandths speed) (in_thousandths time) (in_thousandths carry) ≡ raw_failed rule speed time carry
  unfolding fails
  by-raw Rule1 = at-most-is speed
  by-raw Rule2 = λ i. at-most-is speed i || at-most-is time i || below-is carry i
