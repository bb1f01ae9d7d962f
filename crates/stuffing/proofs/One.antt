-- Two replies that a contract of `stuffing` allows for one input are equal, by the contract as the check reads it off src/ (`Post`).
-- Each is a plain equation; that of `tally` is one for each of its two fields.
use Rattle.std.proofs.Common.{◌≡◌}
use Rattle.general.proofs.One.{plain}
use Rattle.stuffing.proofs.coding.select.Reads as select
use Rattle.stuffing.proofs.coding.escape_code.Reads as escape-code
use Rattle.stuffing.proofs.coding.unescape.Reads as unescape
use Rattle.stuffing.proofs.summing.wide.Reads as wide
use Rattle.stuffing.proofs.summing.checksum.Reads as checksum
use Rattle.stuffing.proofs.summing.tally.Reads as tally

pub one-select : (κs a r s x y : _) → select.Post κs a r x → select.Post κs a s y → r ≡ s
one-select κs a r s x y = plain

pub one-escape-code : (κs a r s x y : _) → escape-code.Post κs a r x → escape-code.Post κs a s y → r ≡ s
one-escape-code κs a r s x y = plain

pub one-unescape : (κs a r s x y : _) → unescape.Post κs a r x → unescape.Post κs a s y → r ≡ s
one-unescape κs a r s x y = plain

pub one-wide : (κs a r s x y : _) → wide.Post κs a r x → wide.Post κs a s y → r ≡ s
one-wide κs a r s x y = plain

pub one-checksum : (κs a r s x y : _) → checksum.Post κs a r x → checksum.Post κs a s y → r ≡ s
one-checksum κs a r s x y = plain

pub one-tally : (κs a r s x y : _) → tally.Post κs a r x → tally.Post κs a s y → r ≡ s
one-tally κs a r s x y p q = λ i. record { more = plain p.0 q.0 i; sum = plain p.1 q.1 i }
