-- Two replies that a call of `abi_splitter` may give for one input are equal, and so is every lent place at exit, by the contract as the
-- check reads it off src/ (`Post`).
use mathlib.Core.Path.{◌≡◌}
use Rattle.general.proofs.One.{plain}
use Rattle.abi.proofs.OnePassing.{one-passing-two}
use Rattle.abi_splitter.proofs.mvd_feed.Reads as feed

pub one-feed : (κs a r s x y : _) → feed.Post κs a r x → feed.Post κs a s y
    → (r ≡ s) × (x.0.now ≡ y.0.now) × (x.1.0.now ≡ y.1.0.now)
    × (x.1.1.1.0.now ≡ y.1.1.1.0.now) × (x.1.1.1.1.0.now ≡ y.1.1.1.1.0.now)
one-feed κs a r s x y p q =
    let e = one-passing-two p.0 q.0 in
    (e.0, e.1, plain p.1 q.1, e.2, e.3)
