-- Two replies that a contract of `abi` allows for one input are equal, and so are the three words at exit, by the contract as the
-- check reads it off src/ (`Post`).
use mathlib.Core.Path.{◌≡◌}
use Rattle.general.proofs.One.{plain}
use Rattle.abi.proofs.OnePassing.{one-done, one-passing}
use Rattle.abi.proofs.tell.Reads as tell
use Rattle.abi.proofs.unit.Reads as unit
use Rattle.abi.proofs.put.Reads as put
use Rattle.abi.proofs.flag.Reads as flag
use Rattle.abi.proofs.wide.Reads as wide
use Rattle.abi.proofs.byte.Reads as byte

pub one-tell : (κs a r s x y : _) → tell.Post κs a r x → tell.Post κs a s y → (r ≡ s) × (x.1.0.now ≡ y.1.0.now)
one-tell κs a r s x y p q = (plain p.0 q.0, plain p.1 q.1)

pub one_unit : (κs a r s x y : _) → unit.Post κs a r x → unit.Post κs a s y → (r ≡ s) × (x.1.0.now ≡ y.1.0.now)
one_unit κs a r s x y = one-done

pub one-flag : (κs a r s x y : _) → flag.Post κs a r x → flag.Post κs a s y → r ≡ s
one-flag κs a r s x y = plain

pub one-wide : (κs a r s x y : _) → wide.Post κs a r x → wide.Post κs a s y → r ≡ s
one-wide κs a r s x y = plain

pub one_byte : (κs a r s x y : _) → byte.Post κs a r x → byte.Post κs a s y → r ≡ s
one_byte κs a r s x y = plain

pub one-put : (t u v w d κs a r s x y : _) → put.Post t u v w d κs a r x → put.Post t u v w d κs a s y
    → (r ≡ s) × (x.1.0.now ≡ y.1.0.now) × (x.1.1.0.now ≡ y.1.1.0.now)
one-put t u v w d κs a r s x y = one-passing
