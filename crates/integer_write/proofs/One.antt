-- Two replies that a contract of `integer_write` allows for one input are equal, and so are the two buffers at exit,
-- by the contract as the check reads it off src/ (`Post`).
use mathlib.Core.Path.{◌≡◌}
use Rattle.general.proofs.One.{plain}
use Rattle.error.proofs.Decides.{one-told}
use Rattle.integer_write.proofs.write_int16.Reads as write-int16
use Rattle.integer_write.proofs.write_uint16.Reads as write-uint16
use Rattle.integer_write.proofs.write_int24.Reads as write-int24
use Rattle.integer_write.proofs.write_uint24.Reads as write-uint24
use Rattle.integer_write.proofs.write_int32.Reads as write-int32
use Rattle.integer_write.proofs.write_uint32.Reads as write-uint32
use Rattle.integer_write.proofs.write_bytes.Reads as write-bytes
use Rattle.integer_write.proofs.bits_of.Reads as bits_of

pub one-write-int16 : (κs a r s x y : _) → write-int16.Post κs a r x → write-int16.Post κs a s y → (r ≡ s) × (x.0.now ≡ y.0.now)
one-write-int16 κs a r s x y p q = (one-told p.0 q.0, plain p.1 q.1)

pub one-write-uint16 : (κs a r s x y : _) → write-uint16.Post κs a r x → write-uint16.Post κs a s y → (r ≡ s) × (x.0.now ≡ y.0.now)
one-write-uint16 κs a r s x y p q = (one-told p.0 q.0, plain p.1 q.1)

pub one-write-int24 : (κs a r s x y : _) → write-int24.Post κs a r x → write-int24.Post κs a s y → (r ≡ s) × (x.0.now ≡ y.0.now)
one-write-int24 κs a r s x y p q = (one-told p.0 q.0, plain p.1 q.1)

pub one-write-uint24 : (κs a r s x y : _) → write-uint24.Post κs a r x → write-uint24.Post κs a s y → (r ≡ s) × (x.0.now ≡ y.0.now)
one-write-uint24 κs a r s x y p q = (one-told p.0 q.0, plain p.1 q.1)

pub one-write-int32 : (κs a r s x y : _) → write-int32.Post κs a r x → write-int32.Post κs a s y → (r ≡ s) × (x.0.now ≡ y.0.now)
one-write-int32 κs a r s x y p q = (one-told p.0 q.0, plain p.1 q.1)

pub one-write-uint32 : (κs a r s x y : _) → write-uint32.Post κs a r x → write-uint32.Post κs a s y → (r ≡ s) × (x.0.now ≡ y.0.now)
one-write-uint32 κs a r s x y p q = (one-told p.0 q.0, plain p.1 q.1)

pub one-write-bytes : (κs a r s x y : _) → write-bytes.Post κs a r x → write-bytes.Post κs a s y → (r ≡ s) × (x.0.now ≡ y.0.now)
one-write-bytes κs a r s x y p q = (one-told p.0 q.0, plain p.1 q.1)

pub one-bits-of : (κs a r s x y : _) → bits_of.Post κs a r x → bits_of.Post κs a s y → r ≡ s
one-bits-of κs a r s x y = plain
