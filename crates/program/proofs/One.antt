-- Two replies that a contract of `program` allows for one input are equal, by the contract as the check reads it off src/ (`Post`).
-- `read`, `write` and `word_count` answer what the system does: docs/PROMISES.md lists them as exceptions.
use Rattle.std.proofs.Common.{◌≡◌, refl}
use Rattle.general.proofs.One.{plain}
use Rattle.program.proofs.alone.Reads as alone
use Rattle.program.proofs.wrong.Reads as wrong
use Rattle.program.proofs.tell.Reads as tell

pub one-alone : (κs a r s x y : _) → alone.Post κs a r x → alone.Post κs a s y → r ≡ s
one-alone κs a r s x y = plain

pub one-wrong : (κs a r s x y : _) → wrong.Post κs a r x → wrong.Post κs a s y → r ≡ s
one-wrong κs a r s x y p q = refl

pub one-tell : (κs a r s x y : _) → tell.Post κs a r x → tell.Post κs a s y → r ≡ s
one-tell κs a r s x y p q = refl
