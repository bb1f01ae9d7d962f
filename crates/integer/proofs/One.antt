-- Two replies that a contract of `integer` allows for one input are equal, by the contract as the check reads it off src/ (`Post`).
-- Each is a plain equation.
use mathlib.Core.Path.{◌≡◌}
use Rattle.general.proofs.One.{plain}
use Rattle.integer.proofs.byte_at.Reads as byte_at
use Rattle.integer.proofs.int16_at.Reads as int16-at
use Rattle.integer.proofs.uint16_at.Reads as uint16-at
use Rattle.integer.proofs.int24_at.Reads as int24-at
use Rattle.integer.proofs.uint24_at.Reads as uint24-at
use Rattle.integer.proofs.int32_at.Reads as int32-at
use Rattle.integer.proofs.uint32_at.Reads as uint32-at
use Rattle.integer.proofs.place.within.Reads as within
use Rattle.integer.proofs.place.need_at.Reads as need-at

pub one-byte-at : (κs a r s x y : _) → byte_at.Post κs a r x → byte_at.Post κs a s y → r ≡ s
one-byte-at κs a r s x y = plain

pub one-int16-at : (κs a r s x y : _) → int16-at.Post κs a r x → int16-at.Post κs a s y → r ≡ s
one-int16-at κs a r s x y = plain

pub one-uint16-at : (κs a r s x y : _) → uint16-at.Post κs a r x → uint16-at.Post κs a s y → r ≡ s
one-uint16-at κs a r s x y = plain

pub one-int24-at : (κs a r s x y : _) → int24-at.Post κs a r x → int24-at.Post κs a s y → r ≡ s
one-int24-at κs a r s x y = plain

pub one-uint24-at : (κs a r s x y : _) → uint24-at.Post κs a r x → uint24-at.Post κs a s y → r ≡ s
one-uint24-at κs a r s x y = plain

pub one-int32-at : (κs a r s x y : _) → int32-at.Post κs a r x → int32-at.Post κs a s y → r ≡ s
one-int32-at κs a r s x y = plain

pub one-uint32-at : (κs a r s x y : _) → uint32-at.Post κs a r x → uint32-at.Post κs a s y → r ≡ s
one-uint32-at κs a r s x y = plain

pub one-within : (κs a r s x y : _) → within.Post κs a r x → within.Post κs a s y → r ≡ s
one-within κs a r s x y = plain

pub one-need-at : (κs a r s x y : _) → need-at.Post κs a r x → need-at.Post κs a s y → r ≡ s
one-need-at κs a r s x y = plain
