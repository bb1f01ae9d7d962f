-- Two replies that a contract of `failure` allows for one input are equal, by the contract as the check reads it off src/ (`Post`).
-- What a number is read as decides the answer; whether a shot failed is a plain equation.
use mathlib.Core.Path.{◌≡◌}
use Rattle.general.proofs.One.{plain}
use Rattle.error.proofs.Decides.{one-told}
use Rattle.failure.proofs.LeagueRule.from_number.Reads as from-number
use Rattle.failure.proofs.LeagueRuleTryFromUsize.try_from.Reads as try-from
use Rattle.failure.proofs.failed.Reads as failed

pub one-from-number : (κs a r s x y : _) → from-number.Post κs a r x → from-number.Post κs a s y → r ≡ s
one-from-number κs a r s x y = one-told

pub one-try-from : (κs a r s x y : _) → try-from.Post κs a r x → try-from.Post κs a s y → r ≡ s
one-try-from κs a r s x y = one-told

pub one-failed : (κs a r s x y : _) → failed.Post κs a r x → failed.Post κs a s y → r ≡ s
one-failed κs a r s x y = plain
