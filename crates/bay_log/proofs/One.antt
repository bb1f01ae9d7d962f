-- Two replies that the contract of `write_record` allows for one call are equal, and so are the two buffers,
-- by the contract as the check reads it off src/ (`Post`).
use mathlib.Core.Path.{◌≡◌, ap}
use mathlib.Core.List.{List}
use Prim.Native.Nat.{ℕ}
use Rattle.general.proofs.One.{plain}
use Rattle.error.specs.Refusal.{Told}
use Rattle.error.proofs.Decides.{one-told}
use Rattle.bay_log.proofs.write_record.Reads as write-record

pub one-write-record : (κs a r s x y : _) → write-record.Post κs a r x → write-record.Post κs a s y → (r ≡ s) × (x.0.now ≡ y.0.now)
one-write-record κs a r s x y p q =
    let told : Told Unit × List ℕ → Told Unit = λ v. v.0 in
    (one-told (ap told p) (ap told q), ap (λ (v : Told Unit × List ℕ). v.1) (plain p q))
