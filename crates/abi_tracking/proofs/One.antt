-- Two replies that a call of `abi_tracking` may give for one input are equal, and so is every lent place at exit, by the contract as the
-- check reads it off src/ (`Post`).
use mathlib.Core.Path.{◌≡◌}
use Rattle.abi.proofs.OnePassing.{one-passing-two}
use Rattle.abi_tracking.proofs.mvd_tracking_status.Reads as tracking-status

pub one-tracking-status : (κs a r s x y : _) → tracking-status.Post κs a r x → tracking-status.Post κs a s y
    → (r ≡ s) × (x.1.0.now ≡ y.1.0.now) × (x.1.1.0.now ≡ y.1.1.0.now) × (x.1.1.1.0.now ≡ y.1.1.1.0.now)
one-tracking-status κs a r s x y = one-passing-two
