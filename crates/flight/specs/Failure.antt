-- A failed shot of D4 and of E8, by a rule of the league: which three figures the rule asks is the message's own.
-- It speaks of any record, also of one that no payload gives.
use Rattle.std.specs.Prelude.{Bool}
use Rattle.failure.specs.declared.LeagueRule.{LeagueRule}
use Rattle.failure.specs.declared.LeagueRule.TheVariants.{Rule1}
use Rattle.failure.specs.League.{failed_by}
use Rattle.flight.specs.declared.flight_result.FlightResult.{FlightResult}
use Rattle.flight.specs.declared.flight_result_v1.FlightResultV1.{FlightResultV1}

abbrev pub flight_failed : LeagueRule → FlightResult → Bool
flight_failed rule r = failed_by rule r.launch_speed r.flight_time r.carry_distance

abbrev pub flight_v1_failed : LeagueRule → FlightResultV1 → Bool
flight_v1_failed rule r = failed_by rule r.ball_velocity r.flight_time r.distance

-- the Rust's two questions are rule 1

abbrev pub model_failure : FlightResult → Bool
model_failure = flight_failed Rule1

abbrev pub no_read : FlightResultV1 → Bool
no_read = flight_v1_failed Rule1
