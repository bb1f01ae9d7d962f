-- Two replies that a call of `abi_codec` may give for one input are equal, and so is every lent place at exit, by the contract as the
-- check reads it off src/ (`Post`): a reader's value, a writer's buffer, and the three words.
use mathlib.Core.Path.{◌≡◌}
use Rattle.abi.proofs.OnePassing.{one-passing, one-stored}
use Rattle.abi_codec.proofs.reads.mvd_read_int16.Reads as read-int16
use Rattle.abi_codec.proofs.reads.mvd_read_uint16.Reads as read-uint16
use Rattle.abi_codec.proofs.reads.mvd_read_int24.Reads as read-int24
use Rattle.abi_codec.proofs.reads.mvd_read_uint24.Reads as read-uint24
use Rattle.abi_codec.proofs.reads.mvd_read_int32.Reads as read-int32
use Rattle.abi_codec.proofs.reads.mvd_read_uint32.Reads as read-uint32
use Rattle.abi_codec.proofs.reads.mvd_read_int24_scaled.Reads as read-int24-scaled
use Rattle.abi_codec.proofs.reads.mvd_read_int16_scaled.Reads as read-int16-scaled
use Rattle.abi_codec.proofs.reads.mvd_read_float40.Reads as read-float40
use Rattle.abi_codec.proofs.writes.mvd_write_int16.Reads as write-int16
use Rattle.abi_codec.proofs.writes.mvd_write_uint16.Reads as write-uint16
use Rattle.abi_codec.proofs.writes.mvd_write_int24.Reads as write-int24
use Rattle.abi_codec.proofs.writes.mvd_write_uint24.Reads as write-uint24
use Rattle.abi_codec.proofs.writes.mvd_write_int32.Reads as write-int32
use Rattle.abi_codec.proofs.writes.mvd_write_uint32.Reads as write-uint32
use Rattle.abi_codec.proofs.writes.mvd_write_float40_bits.Reads as write-float40-bits

pub one-read-int16 : (κs a r s x y : _) → read-int16.Post κs a r x → read-int16.Post κs a s y
    → (r ≡ s) × (x.1.1.0.now ≡ y.1.1.0.now) × (x.1.1.1.0.now ≡ y.1.1.1.0.now)
one-read-int16 κs a r s x y = one-passing

pub one-read-uint16 : (κs a r s x y : _) → read-uint16.Post κs a r x → read-uint16.Post κs a s y
    → (r ≡ s) × (x.1.1.0.now ≡ y.1.1.0.now) × (x.1.1.1.0.now ≡ y.1.1.1.0.now)
one-read-uint16 κs a r s x y = one-passing

pub one-read-int24 : (κs a r s x y : _) → read-int24.Post κs a r x → read-int24.Post κs a s y
    → (r ≡ s) × (x.1.1.0.now ≡ y.1.1.0.now) × (x.1.1.1.0.now ≡ y.1.1.1.0.now)
one-read-int24 κs a r s x y = one-passing

pub one-read-uint24 : (κs a r s x y : _) → read-uint24.Post κs a r x → read-uint24.Post κs a s y
    → (r ≡ s) × (x.1.1.0.now ≡ y.1.1.0.now) × (x.1.1.1.0.now ≡ y.1.1.1.0.now)
one-read-uint24 κs a r s x y = one-passing

pub one-read-int32 : (κs a r s x y : _) → read-int32.Post κs a r x → read-int32.Post κs a s y
    → (r ≡ s) × (x.1.1.0.now ≡ y.1.1.0.now) × (x.1.1.1.0.now ≡ y.1.1.1.0.now)
one-read-int32 κs a r s x y = one-passing

pub one-read-uint32 : (κs a r s x y : _) → read-uint32.Post κs a r x → read-uint32.Post κs a s y
    → (r ≡ s) × (x.1.1.0.now ≡ y.1.1.0.now) × (x.1.1.1.0.now ≡ y.1.1.1.0.now)
one-read-uint32 κs a r s x y = one-passing

pub one-read-int24-scaled : (κs a r s x y : _) → read-int24-scaled.Post κs a r x → read-int24-scaled.Post κs a s y
    → (r ≡ s) × (x.1.1.1.0.now ≡ y.1.1.1.0.now) × (x.1.1.1.1.0.now ≡ y.1.1.1.1.0.now)
one-read-int24-scaled κs a r s x y = one-passing

pub one-read-int16-scaled : (κs a r s x y : _) → read-int16-scaled.Post κs a r x → read-int16-scaled.Post κs a s y
    → (r ≡ s) × (x.1.1.1.0.now ≡ y.1.1.1.0.now) × (x.1.1.1.1.0.now ≡ y.1.1.1.1.0.now)
one-read-int16-scaled κs a r s x y = one-passing

pub one-read-float40 : (κs a r s x y : _) → read-float40.Post κs a r x → read-float40.Post κs a s y
    → (r ≡ s) × (x.1.1.0.now ≡ y.1.1.0.now) × (x.1.1.1.0.now ≡ y.1.1.1.0.now)
one-read-float40 κs a r s x y = one-passing

pub one-write-int16 : (κs a r s x y : _) → write-int16.Post κs a r x → write-int16.Post κs a s y
    → (r ≡ s) × (x.0.now ≡ y.0.now) × (x.1.1.1.0.now ≡ y.1.1.1.0.now)
one-write-int16 κs a r s x y = one-stored

pub one-write-uint16 : (κs a r s x y : _) → write-uint16.Post κs a r x → write-uint16.Post κs a s y
    → (r ≡ s) × (x.0.now ≡ y.0.now) × (x.1.1.1.0.now ≡ y.1.1.1.0.now)
one-write-uint16 κs a r s x y = one-stored

pub one-write-int24 : (κs a r s x y : _) → write-int24.Post κs a r x → write-int24.Post κs a s y
    → (r ≡ s) × (x.0.now ≡ y.0.now) × (x.1.1.1.0.now ≡ y.1.1.1.0.now)
one-write-int24 κs a r s x y = one-stored

pub one-write-uint24 : (κs a r s x y : _) → write-uint24.Post κs a r x → write-uint24.Post κs a s y
    → (r ≡ s) × (x.0.now ≡ y.0.now) × (x.1.1.1.0.now ≡ y.1.1.1.0.now)
one-write-uint24 κs a r s x y = one-stored

pub one-write-int32 : (κs a r s x y : _) → write-int32.Post κs a r x → write-int32.Post κs a s y
    → (r ≡ s) × (x.0.now ≡ y.0.now) × (x.1.1.1.0.now ≡ y.1.1.1.0.now)
one-write-int32 κs a r s x y = one-stored

pub one-write-uint32 : (κs a r s x y : _) → write-uint32.Post κs a r x → write-uint32.Post κs a s y
    → (r ≡ s) × (x.0.now ≡ y.0.now) × (x.1.1.1.0.now ≡ y.1.1.1.0.now)
one-write-uint32 κs a r s x y = one-stored

pub one-write-float40-bits : (κs a r s x y : _) → write-float40-bits.Post κs a r x → write-float40-bits.Post κs a s y
    → (r ≡ s) × (x.0.now ≡ y.0.now) × (x.1.1.1.0.now ≡ y.1.1.1.0.now)
one-write-float40-bits κs a r s x y = one-stored
