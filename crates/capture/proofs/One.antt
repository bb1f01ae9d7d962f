-- Two replies that the contract of `print_all` allows are equal, by the contract as the check reads it off src/ (`Post`): it answers
-- nothing, and nothing is lent to it. What it prints is the subject of session: proofs/Printed.
use Rattle.std.proofs.Common.{◌≡◌, refl}
use Rattle.capture.proofs.print_all.Reads as print-all

pub one-print-all : (κs a r s x y : _) → print-all.Post κs a r x → print-all.Post κs a s y → r ≡ s
one-print-all κs a r s x y p q = refl
