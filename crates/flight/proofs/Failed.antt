-- A shot failed by rule 1 is failed by rule 2, for every record of D4 and of E8.
-- Of a decoded payload each rule is a test of the raw whole numbers: speed at most 0, flight time at most 0, carry below 0.
use mathlib.Core.Path.{◌≡◌, ◌∙◌, ap}
use mathlib.Core.Bool.{true}
use mathlib.Core.List.{List}
use Prim.Native.Nat.{ℕ, ◌≤◌}
use lib.ListN.{length}
use Rattle.failure.specs.declared.LeagueRule.{LeagueRule}
use Rattle.failure.specs.declared.LeagueRule.TheVariants.{Rule1, Rule2}
use Rattle.failure.specs.League.{at_most_zero, below_zero, raw_failed}
use Rattle.failure.proofs.Rules.{stays-failed, by-raw}
use Rattle.numbers.specs.declared.Message.TheVariants as message
use Rattle.numbers.specs.Numbers.{shape_of, whole_of, rule_of, figure_of}
use Rattle.layout.specs.Layout.{told_decoded}
use Rattle.flight.specs.declared.flight_result.FlightResult.{FlightResult}
use Rattle.layout.specs.declared.Decoded.{Decoded}
use Rattle.flight.specs.declared.flight_result_v1.FlightResultV1.{FlightResultV1}
use Rattle.flight.specs.Decoding.{decode_rule}
use Rattle.flight.specs.FlightResultFields.{flight_result}
use Rattle.flight.specs.FlightResultV1Fields.{flight_result_v1}
use Rattle.flight.specs.Failure.{flight_failed, flight_v1_failed}
use Rattle.flight.proofs.ByNumber.{decoded}

-- ---- rule 1 within rule 2

pub flight-stays-failed : (r : FlightResult) → flight_failed Rule1 r ≡ true → flight_failed Rule2 r ≡ true
flight-stays-failed r = stays-failed at_most_zero below_zero _ _ _

pub flight-v1-stays-failed : (r : FlightResultV1) → flight_v1_failed Rule1 r ≡ true → flight_v1_failed Rule2 r ≡ true
flight-v1-stays-failed r = stays-failed at_most_zero below_zero _ _ _

-- ---- the raw whole numbers

module _ (p : List ℕ) (rule : LeagueRule) where
  pub flight-by-raw : (shape_of message.FlightResult).least ≤ length p → (r : Decoded FlightResult)
      → told_decoded r ≡ decode_rule message.FlightResult flight_result p
      → let n = whole_of message.FlightResult p in flight_failed rule r.«record» ≡ raw_failed rule (n 5) (n 9) (n 8)
  unfolding rule_of figure_of
  flight-by-raw l r e =
      ap (flight_failed rule) (decoded message.FlightResult p l flight_result (told_decoded r) e) ∙ by-raw _ _ _ rule

  pub flight-v1-by-raw : (shape_of message.FlightResultV1).least ≤ length p → (r : Decoded FlightResultV1)
      → told_decoded r ≡ decode_rule message.FlightResultV1 flight_result_v1 p
      → let n = whole_of message.FlightResultV1 p in flight_v1_failed rule r.«record» ≡ raw_failed rule (n 2) (n 3) (n 4)
  unfolding rule_of figure_of
  flight-v1-by-raw l r e =
      ap (flight_v1_failed rule) (decoded message.FlightResultV1 p l flight_result_v1 (told_decoded r) e) ∙ by-raw _ _ _ rule
