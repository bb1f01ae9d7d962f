-- Two replies that a contract of `integer_read` allows for one input are equal, by the contract as the check reads it off src/ (`Post`).
-- What a reply tells decides it. All NaNs are one `Float`, so the bits of a NaN that a scaled read answers are not told.
use mathlib.Core.Path.{◌≡◌}
use Rattle.error.proofs.Decides.{one-told}
use Rattle.integer_read.proofs.read_int16.Reads as read-int16
use Rattle.integer_read.proofs.read_uint16.Reads as read-uint16
use Rattle.integer_read.proofs.read_int24.Reads as read-int24
use Rattle.integer_read.proofs.read_uint24.Reads as read-uint24
use Rattle.integer_read.proofs.read_int32.Reads as read-int32
use Rattle.integer_read.proofs.read_uint32.Reads as read-uint32
use Rattle.integer_read.proofs.read_int24_scaled.Reads as read-int24-scaled
use Rattle.integer_read.proofs.read_int16_scaled.Reads as read-int16-scaled

pub one-read-int16 : (κs a r s x y : _) → read-int16.Post κs a r x → read-int16.Post κs a s y → r ≡ s
one-read-int16 κs a r s x y = one-told

pub one-read-uint16 : (κs a r s x y : _) → read-uint16.Post κs a r x → read-uint16.Post κs a s y → r ≡ s
one-read-uint16 κs a r s x y = one-told

pub one-read-int24 : (κs a r s x y : _) → read-int24.Post κs a r x → read-int24.Post κs a s y → r ≡ s
one-read-int24 κs a r s x y = one-told

pub one-read-uint24 : (κs a r s x y : _) → read-uint24.Post κs a r x → read-uint24.Post κs a s y → r ≡ s
one-read-uint24 κs a r s x y = one-told

pub one-read-int32 : (κs a r s x y : _) → read-int32.Post κs a r x → read-int32.Post κs a s y → r ≡ s
one-read-int32 κs a r s x y = one-told

pub one-read-uint32 : (κs a r s x y : _) → read-uint32.Post κs a r x → read-uint32.Post κs a s y → r ≡ s
one-read-uint32 κs a r s x y = one-told

pub one-read-int24-scaled : (κs a r s x y : _) → read-int24-scaled.Post κs a r x → read-int24-scaled.Post κs a s y → r ≡ s
one-read-int24-scaled κs a r s x y = one-told

pub one-read-int16-scaled : (κs a r s x y : _) → read-int16-scaled.Post κs a r x → read-int16-scaled.Post κs a s y → r ≡ s
one-read-int16-scaled κs a r s x y = one-told
