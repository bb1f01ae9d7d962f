-- Two replies that a contract of `float40_write` allows for one input are equal, and so are the two buffers at exit,
-- by the contract as the check reads it off src/ (`Post`). Two NaNs are one input: `bits64` gives every NaN the same bits.
use mathlib.Core.Path.{◌≡◌}
use Rattle.general.proofs.One.{plain}
use Rattle.error.proofs.Decides.{one-told}
use Rattle.float40_write.proofs.write_float40.Reads as write-float40
use Rattle.float40_write.proofs.write_float40_bits.Reads as write-float40-bits
use Rattle.float40_write.proofs.bits_of.Reads as bits_of

pub one-write-float40 : (κs a r s x y : _) → write-float40.Post κs a r x → write-float40.Post κs a s y → (r ≡ s) × (x.0.now ≡ y.0.now)
one-write-float40 κs a r s x y p q = (one-told p.0 q.0, plain p.1 q.1)

pub one-write-float40-bits : (κs a r s x y : _) → write-float40-bits.Post κs a r x → write-float40-bits.Post κs a s y → (r ≡ s) × (x.0.now ≡ y.0.now)
one-write-float40-bits κs a r s x y p q = (one-told p.0 q.0, plain p.1 q.1)

pub one-bits-of : (κs a r s x y : _) → bits_of.Post κs a r x → bits_of.Post κs a s y → r ≡ s
one-bits-of κs a r s x y = plain
