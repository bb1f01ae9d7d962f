-- Two replies that a call of `abi_failure` may give for one input are equal, and so is every lent place at exit, by the contract as the
-- check reads it off src/ (`Post`).
use mathlib.Core.Path.{◌≡◌}
use Rattle.abi.proofs.OnePassing.{one-passing}
use Rattle.abi_failure.proofs.mvd_is_failed.Reads as is-failed
use Rattle.abi_failure.proofs.mvd_is_failed_v1.Reads as is-failed-v1
use Rattle.abi_failure.proofs.mvd_is_model_failure.Reads as is-model-failure
use Rattle.abi_failure.proofs.mvd_is_no_read.Reads as is-no-read

pub one-is-failed : (κs a r s x y : _) → is-failed.Post κs a r x → is-failed.Post κs a s y
    → (r ≡ s) × (x.1.1.0.now ≡ y.1.1.0.now) × (x.1.1.1.0.now ≡ y.1.1.1.0.now)
one-is-failed κs a r s x y = one-passing

pub one-is-failed-v1 : (κs a r s x y : _) → is-failed-v1.Post κs a r x → is-failed-v1.Post κs a s y
    → (r ≡ s) × (x.1.1.0.now ≡ y.1.1.0.now) × (x.1.1.1.0.now ≡ y.1.1.1.0.now)
one-is-failed-v1 κs a r s x y = one-passing

pub one-is-model-failure : (κs a r s x y : _) → is-model-failure.Post κs a r x → is-model-failure.Post κs a s y
    → (r ≡ s) × (x.1.0.now ≡ y.1.0.now) × (x.1.1.0.now ≡ y.1.1.0.now)
one-is-model-failure κs a r s x y = one-passing

pub one-is-no-read : (κs a r s x y : _) → is-no-read.Post κs a r x → is-no-read.Post κs a s y
    → (r ≡ s) × (x.1.0.now ≡ y.1.0.now) × (x.1.1.0.now ≡ y.1.1.0.now)
one-is-no-read κs a r s x y = one-passing
