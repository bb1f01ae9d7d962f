-- Two replies that a call of `abi_speed_profile` may give for one input are equal, and so is every lent place at exit, by the contract as the
-- check reads it off src/ (`Post`).
use mathlib.Core.Path.{◌≡◌}
use Rattle.general.proofs.One.{plain}
use Rattle.abi.proofs.OnePassing.{one-passing-three}
use Rattle.abi_speed_profile.proofs.mvd_speed_profile.Reads as speed-profile

pub one-speed-profile : (κs a r s x y : _) → speed-profile.Post κs a r x → speed-profile.Post κs a s y
    → (r ≡ s) × (x.1.0.now ≡ y.1.0.now) × (x.1.1.0.now ≡ y.1.1.0.now) × (x.1.1.1.0.now ≡ y.1.1.1.0.now)
    × (x.1.1.1.1.0.now ≡ y.1.1.1.1.0.now) × (x.1.1.1.1.1.0.now ≡ y.1.1.1.1.1.0.now)
one-speed-profile κs a r s x y p q =
    let e = one-passing-three p.0 q.0 in
    (e.0, plain p.1 q.1, e.1, e.2, e.3, e.4)
