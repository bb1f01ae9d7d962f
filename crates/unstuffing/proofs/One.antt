-- Two replies that `unstuffed`'s contract allows for one string are equal, by the contract as the check reads it off src/ (`Post`).
-- What a reply tells decides it.
use Rattle.std.proofs.Common.{◌≡◌}
use Rattle.error.proofs.Decides.{one-told}
use Rattle.unstuffing.proofs.unstuffed.Reads as unstuffed

pub one-unstuffed : (κs a r s x y : _) → unstuffed.Post κs a r x → unstuffed.Post κs a s y → r ≡ s
one-unstuffed κs a r s x y = one-told
