-- Two replies that a call of `abi_prc` may give for one input are equal, and so is every lent place at exit, by the contract as the
-- check reads it off src/ (`Post`).
use mathlib.Core.Path.{◌≡◌}
use Rattle.abi.proofs.OnePassing.{one-passing-two}
use Rattle.abi_prc.proofs.mvd_prc_data.Reads as prc-data
use Rattle.abi_prc.proofs.mvd_prc_point.Reads as prc-point

pub one-prc-data : (κs a r s x y : _) → prc-data.Post κs a r x → prc-data.Post κs a s y
    → (r ≡ s) × (x.1.0.now ≡ y.1.0.now) × (x.1.1.0.now ≡ y.1.1.0.now) × (x.1.1.1.0.now ≡ y.1.1.1.0.now)
one-prc-data κs a r s x y = one-passing-two

pub one-prc-point : (κs a r s x y : _) → prc-point.Post κs a r x → prc-point.Post κs a s y
    → (r ≡ s) × (x.1.1.0.now ≡ y.1.1.0.now) × (x.1.1.1.0.now ≡ y.1.1.1.0.now) × (x.1.1.1.1.0.now ≡ y.1.1.1.1.0.now)
one-prc-point κs a r s x y = one-passing-two
