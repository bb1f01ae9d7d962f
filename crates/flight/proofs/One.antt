-- Two replies that a contract of `flight` allows for one input are equal, by the contract as the check reads it off src/ (`Post`).
-- A decoder's reply is its answer and its record; whether a shot failed, and what is read, are plain equations.
use mathlib.Core.Path.{◌≡◌, ap}
use Rattle.general.proofs.One.{plain}
use Rattle.error.specs.Refusal.{Told}
use Rattle.error.proofs.Decides.{one-told}
use Rattle.layout.specs.declared.Decoded.{Decoded}
use Rattle.layout.specs.Layout.{told_decoded}
use Rattle.flight.proofs.flight_result.FlightResult.decode.Reads as flight-result
use Rattle.flight.proofs.flight_result.FlightResultRecord.read.Reads as read-flight-result
use Rattle.flight.proofs.flight_result_v1.FlightResultV1Record.read.Reads as read-flight-result-v1
use Rattle.flight.proofs.club_result.ClubResultRecord.read.Reads as read-club-result
use Rattle.flight.proofs.flight_result.FlightResult.is_failed.Reads as is-failed
use Rattle.flight.proofs.flight_result.FlightResult.is_model_failure.Reads as is-model-failure
use Rattle.flight.proofs.flight_result_v1.FlightResultV1.decode.Reads as flight-result-v1
use Rattle.flight.proofs.flight_result_v1.FlightResultV1.is_failed.Reads as is-failed-v1
use Rattle.flight.proofs.flight_result_v1.FlightResultV1.is_no_read.Reads as is-no-read
use Rattle.flight.proofs.club_result.ClubResult.decode.Reads as club-result

one-decoded : {A : Type 0} {r s : Decoded A} {w : Told Unit × A} → told_decoded r ≡ w → told_decoded s ≡ w → r ≡ s
one-decoded {A} e f = λ i. record {
  result = one-told (ap (λ (v : Told Unit × A). v.0) e) (ap (λ (v : Told Unit × A). v.0) f) i;
  «record» = plain (ap (λ (v : Told Unit × A). v.1) e) (ap (λ (v : Told Unit × A). v.1) f) i;
}

pub one-flight-result : (κs a r s x y : _) → flight-result.Post κs a r x → flight-result.Post κs a s y → r ≡ s
one-flight-result κs a r s x y = one-decoded

pub one-flight-result-v1 : (κs a r s x y : _) → flight-result-v1.Post κs a r x → flight-result-v1.Post κs a s y → r ≡ s
one-flight-result-v1 κs a r s x y = one-decoded

pub one-club-result : (κs a r s x y : _) → club-result.Post κs a r x → club-result.Post κs a s y → r ≡ s
one-club-result κs a r s x y = one-decoded

pub one-is-failed : (κs a r s x y : _) → is-failed.Post κs a r x → is-failed.Post κs a s y → r ≡ s
one-is-failed κs a r s x y = plain

pub one-is-failed-v1 : (κs a r s x y : _) → is-failed-v1.Post κs a r x → is-failed-v1.Post κs a s y → r ≡ s
one-is-failed-v1 κs a r s x y = plain

pub one-is-model-failure : (κs a r s x y : _) → is-model-failure.Post κs a r x → is-model-failure.Post κs a s y → r ≡ s
one-is-model-failure κs a r s x y = plain

pub one-is-no-read : (κs a r s x y : _) → is-no-read.Post κs a r x → is-no-read.Post κs a s y → r ≡ s
one-is-no-read κs a r s x y = plain

-- a record read from a payload that is long enough

pub one-read-flight-result : (κs a r s x y : _) → read-flight-result.Post κs a r x → read-flight-result.Post κs a s y → r ≡ s
one-read-flight-result κs a r s x y = plain

pub one-read-flight-result-v1 : (κs a r s x y : _) → read-flight-result-v1.Post κs a r x → read-flight-result-v1.Post κs a s y → r ≡ s
one-read-flight-result-v1 κs a r s x y = plain

pub one-read-club-result : (κs a r s x y : _) → read-club-result.Post κs a r x → read-club-result.Post κs a s y → r ≡ s
one-read-club-result κs a r s x y = plain
