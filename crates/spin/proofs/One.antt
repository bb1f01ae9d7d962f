-- Two replies that the contract of `spin` allows for one payload are equal, by the contract as the check reads it off src/ (`Post`).
-- What is told decides the answer; the record beside it is a plain equation.
use mathlib.Core.Path.{◌≡◌}
use Rattle.general.proofs.One.{plain}
use Rattle.error.proofs.Decides.{one-told}
use Rattle.spin.proofs.SpinResult.decode.Reads as decode
use Rattle.spin.proofs.SpinResultRecord.read.Reads as read

pub one-decode : (κs a r s x y : _) → decode.Post κs a r x → decode.Post κs a s y → r ≡ s
one-decode κs a r s x y (p, e) (q, f) = λ i. record { result = one-told {r = r.result} {s = s.result} p q i; «record» = plain e f i }

pub one-read : (κs a r s x y : _) → read.Post κs a r x → read.Post κs a s y → r ≡ s
one-read κs a r s x y = plain
