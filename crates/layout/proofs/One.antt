-- Two replies that a contract of `layout` allows for one input are equal, by the contract as the check reads it off src/ (`Post`).
-- What is told decides a reply, all else is a plain equation; all NaNs are one `Float`, so the bits of a NaN are not told.
use mathlib.Core.Path.{◌≡◌}
use Rattle.general.proofs.One.{plain}
use Rattle.error.proofs.Decides.{one-told}
use Rattle.layout.proofs.decode.Reads as decode
use Rattle.layout.proofs.int16_scaled_at.Reads as int16-scaled-at
use Rattle.layout.proofs.int24_scaled_at.Reads as int24-scaled-at

-- whatever the record
pub one-decode : (t u v w d e κs a r s x y : _) → decode.Post t u v w d e κs a r x → decode.Post t u v w d e κs a s y → r ≡ s
one-decode t u v w d e κs a r s x y (p, m) (q, n) = λ i. record { result = one-told {r = r.result} {s = s.result} p q i; «record» = plain m n i }

pub one-int16-scaled-at : (κs a r s x y : _) → int16-scaled-at.Post κs a r x → int16-scaled-at.Post κs a s y → r ≡ s
one-int16-scaled-at κs a r s x y = plain

pub one-int24-scaled-at : (κs a r s x y : _) → int24-scaled-at.Post κs a r x → int24-scaled-at.Post κs a s y → r ≡ s
one-int24-scaled-at κs a r s x y = plain
