-- Two replies that a contract of `error` allows for one input are equal, by the contract as the check reads it off src/ (`Post`).
-- Each is a plain equation.
use mathlib.Core.Path.{◌≡◌}
use Rattle.general.proofs.One.{plain}
use Rattle.error.proofs.WireError.payload_too_short.Reads as payload-too-short
use Rattle.error.proofs.WireError.number.Reads as number
use Rattle.error.proofs.WireError.count.Reads as count
use Rattle.error.proofs.WireError.value.Reads as value

pub one-payload-too-short : (κs a r s x y : _) → payload-too-short.Post κs a r x → payload-too-short.Post κs a s y → r ≡ s
one-payload-too-short κs a r s x y = plain

pub one_number : (κs a r s x y : _) → number.Post κs a r x → number.Post κs a s y → r ≡ s
one_number κs a r s x y = plain

pub one-count : (κs a r s x y : _) → count.Post κs a r x → count.Post κs a s y → r ≡ s
one-count κs a r s x y = plain

pub one_value : (κs a r s x y : _) → value.Post κs a r x → value.Post κs a s y → r ≡ s
one_value κs a r s x y = plain
