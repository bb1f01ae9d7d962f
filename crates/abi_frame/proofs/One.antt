-- Two replies that a call of `abi_frame` may give for one input are equal, and so is every lent place at exit, by the contract as the
-- check reads it off src/ (`Post`).
use mathlib.Core.Path.{◌≡◌}
use Rattle.general.proofs.One.{plain}
use Rattle.abi.proofs.OnePassing.{one-passing}
use Rattle.abi_frame.proofs.mvd_open.Reads as opening
use Rattle.abi_frame.proofs.mvd_copy_payload.Reads as copying
use Rattle.abi_frame.proofs.mvd_encode.Reads as encode

pub one-open : (κs a r s x y : _) → opening.Post κs a r x → opening.Post κs a s y
    → (r ≡ s) × (x.1.0.now ≡ y.1.0.now) × (x.1.1.0.now ≡ y.1.1.0.now)
one-open κs a r s x y = one-passing

pub one-copy-payload : (κs a r s x y : _) → copying.Post κs a r x → copying.Post κs a s y
    → (r ≡ s) × (x.1.0.now ≡ y.1.0.now) × (x.1.1.0.now ≡ y.1.1.0.now) × (x.1.1.1.0.now ≡ y.1.1.1.0.now)
one-copy-payload κs a r s x y p q =
    let e = one-passing p.0 q.0 in
    (e.0, plain p.1 q.1, e.1, e.2)

pub one-encode : (κs a r s x y : _) → encode.Post κs a r x → encode.Post κs a s y
    → (r ≡ s) × (x.1.1.1.1.0.now ≡ y.1.1.1.1.0.now) × (x.1.1.1.1.1.0.now ≡ y.1.1.1.1.1.0.now)
    × (x.1.1.1.1.1.1.0.now ≡ y.1.1.1.1.1.1.0.now)
one-encode κs a r s x y p q =
    let e = one-passing p.0 q.0 in
    (e.0, plain p.1 q.1, e.1, e.2)
