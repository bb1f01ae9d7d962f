-- Two replies that a contract of `search` allows for one input are equal, by the contract as the check reads it off src/ (`Post`).
-- Each is a plain equation.
use mathlib.Core.Path.{◌≡◌}
use Rattle.general.proofs.One.{plain}
use Rattle.search.proofs.find.Reads as find
use Rattle.search.proofs.find_far.Reads as find-far

pub one-find : (κs a r s x y : _) → find.Post κs a r x → find.Post κs a s y → r ≡ s
one-find κs a r s x y = plain

pub one-find-far : (κs a r s x y : _) → find-far.Post κs a r x → find-far.Post κs a s y → r ≡ s
one-find-far κs a r s x y = plain
