-- Two replies that `mvd_value_count` may give for one number are equal, by the contract as the check reads it off src/ (`Post`).
-- A number is a refusal's or it is not, and either way the count is fixed.
use mathlib.Core.Path.{◌≡◌}
use Rattle.abi_error.proofs.Numbered.{one-counts}
use Rattle.abi_error.proofs.mvd_value_count.Reads as value-count

pub one-value-count : (κs a r s x y : _) → value-count.Post κs a r x → value-count.Post κs a s y → r ≡ s
one-value-count κs a r s x y = one-counts
