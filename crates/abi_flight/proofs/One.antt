-- Two replies that a call of `abi_flight` may give for one input are equal, and so is every lent place at exit, by the contract as the
-- check reads it off src/ (`Post`).
use mathlib.Core.Path.{◌≡◌}
use Rattle.abi.proofs.OnePassing.{one-passing-two}
use Rattle.abi_flight.proofs.mvd_flight_result.Reads as flight-result
use Rattle.abi_flight.proofs.mvd_flight_result_v1.Reads as flight-result-v1
use Rattle.abi_flight.proofs.mvd_club_result.Reads as club-result

pub one-flight-result : (κs a r s x y : _) → flight-result.Post κs a r x → flight-result.Post κs a s y
    → (r ≡ s) × (x.1.0.now ≡ y.1.0.now) × (x.1.1.0.now ≡ y.1.1.0.now) × (x.1.1.1.0.now ≡ y.1.1.1.0.now)
one-flight-result κs a r s x y = one-passing-two

pub one-flight-result-v1 : (κs a r s x y : _) → flight-result-v1.Post κs a r x → flight-result-v1.Post κs a s y
    → (r ≡ s) × (x.1.0.now ≡ y.1.0.now) × (x.1.1.0.now ≡ y.1.1.0.now) × (x.1.1.1.0.now ≡ y.1.1.1.0.now)
one-flight-result-v1 κs a r s x y = one-passing-two

pub one-club-result : (κs a r s x y : _) → club-result.Post κs a r x → club-result.Post κs a s y
    → (r ≡ s) × (x.1.0.now ≡ y.1.0.now) × (x.1.1.0.now ≡ y.1.1.0.now) × (x.1.1.1.0.now ≡ y.1.1.1.0.now)
one-club-result κs a r s x y = one-passing-two
