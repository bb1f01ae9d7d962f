-- Two replies that a contract of `float40` allows for one input are equal, by the contract as the check reads it off src/ (`Post`).
-- Of a float the contract tells the value: all NaNs are one `Float`.
use mathlib.Core.Path.{◌≡◌}
use Rattle.general.proofs.One.{plain}
use Rattle.error.proofs.Decides.{one-told}
use Rattle.float40.proofs.read_float40.Reads as read-float40
use Rattle.float40.proofs.float40_at.Reads as float40-at
use Rattle.float40.proofs.float40_of.Reads as float40-of

pub one-read-float40 : (κs a r s x y : _) → read-float40.Post κs a r x → read-float40.Post κs a s y → r ≡ s
one-read-float40 κs a r s x y = one-told

pub one-float40-at : (κs a r s x y : _) → float40-at.Post κs a r x → float40-at.Post κs a s y → r ≡ s
one-float40-at κs a r s x y = plain

pub one-float40-of : (κs a r s x y : _) → float40-of.Post κs a r x → float40-of.Post κs a s y → r ≡ s
one-float40-of κs a r s x y = plain
