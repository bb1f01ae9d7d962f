-- Two replies that a call of `abi_spin` may give for one input are equal, and so is every lent place at exit, by the contract as the
-- check reads it off src/ (`Post`).
use mathlib.Core.Path.{◌≡◌}
use Rattle.abi.proofs.OnePassing.{one-passing-two}
use Rattle.abi_spin.proofs.mvd_spin_result.Reads as spin-result

pub one-spin-result : (κs a r s x y : _) → spin-result.Post κs a r x → spin-result.Post κs a s y
    → (r ≡ s) × (x.1.0.now ≡ y.1.0.now) × (x.1.1.0.now ≡ y.1.1.0.now) × (x.1.1.1.0.now ≡ y.1.1.1.0.now)
one-spin-result κs a r s x y = one-passing-two
