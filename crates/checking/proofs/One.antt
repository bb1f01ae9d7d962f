-- Two replies that `check`'s contract allows for one wire are equal, by the contract as the check reads it off src/ (`Post`).
-- What a reply tells decides it.
use mathlib.Core.Path.{◌≡◌}
use Rattle.error.proofs.Decides.{one-told}
use Rattle.checking.proofs.check.Reads as check

pub one-check : (κs a r s x y : _) → check.Post κs a r x → check.Post κs a s y → r ≡ s
one-check κs a r s x y = one-told
