-- Two replies that a contract of `addr` allows for one input are equal, by the contract as the check reads it off src/ (`Post`).
-- What a byte is read as decides the answer; an address's byte is a plain equation.
use mathlib.Core.Path.{◌≡◌}
use Rattle.general.proofs.One.{plain}
use Rattle.error.proofs.Decides.{one-told}
use Rattle.addr.proofs.BusAddr.from_byte.Reads as from_byte
use Rattle.addr.proofs.BusAddr.as_byte.Reads as as_byte
use Rattle.addr.proofs.BusAddrTryFromU8.try_from.Reads as try_from
use Rattle.addr.proofs.U8FromBusAddr.from.Reads as from

pub one-from-byte : (κs a r s x y : _) → from_byte.Post κs a r x → from_byte.Post κs a s y → r ≡ s
one-from-byte κs a r s x y = one-told

pub one-as-byte : (κs a r s x y : _) → as_byte.Post κs a r x → as_byte.Post κs a s y → r ≡ s
one-as-byte κs a r s x y = plain

pub one-try-from : (κs a r s x y : _) → try_from.Post κs a r x → try_from.Post κs a s y → r ≡ s
one-try-from κs a r s x y = one-told

pub one-from : (κs a r s x y : _) → from.Post κs a r x → from.Post κs a s y → r ≡ s
one-from κs a r s x y = plain
