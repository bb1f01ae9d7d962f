-- Two parts that the contract of `view` allows for one place have the same bytes and lie at the same address, by the contract as the
-- check reads it off src/ (`Post`). A returned reference also has a ghost name, of which no contract speaks.
use mathlib.Core.Path.{◌≡◌}
use Rattle.general.proofs.One.{plain}
use Rattle.view.proofs.view.Reads as view

pub one-view : (κs a r s x y : _) → view.Post κs a r x → view.Post κs a s y → (r.now ≡ s.now) × (r.ref_ptr ≡ s.ref_ptr)
one-view κs a r s x y p q = (plain p.0 q.0, plain p.1 q.1)
