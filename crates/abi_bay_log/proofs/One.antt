-- Two replies that a call of `abi_bay_log` may give for one input are equal, and so is every lent place at exit, by the contract as the
-- check reads it off src/ (`Post`).
use mathlib.Core.Path.{◌≡◌}
use Rattle.abi.proofs.OnePassing.{one-stored}
use Rattle.abi_bay_log.proofs.mvd_bay_log.Reads as bay-log

pub one-bay-log : (κs a r s x y : _) → bay-log.Post κs a r x → bay-log.Post κs a s y
    → (r ≡ s) × (x.1.1.0.now ≡ y.1.1.0.now) × (x.1.1.1.0.now ≡ y.1.1.1.0.now)
one-bay-log κs a r s x y = one-stored
