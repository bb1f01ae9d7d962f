-- Two replies that a contract of `frame` allows for one input are equal, and so are the buffers that they leave,
-- by the contract as the check reads it off src/ (`Post`): what a reply tells decides it, the buffer is a plain equation.
use mathlib.Core.Path.{◌≡◌}
use Rattle.error.proofs.Decides.{one-told}
use Rattle.general.proofs.One.{plain}
use Rattle.frame.proofs.RawFrame.encode.Reads as encode
use Rattle.frame.proofs.RawFrame.open.Reads as opening
use Rattle.frame.proofs.RawFrame.copy_payload.Reads as copying

pub one-encode : (κs a r s x y : _) → encode.Post κs a r x → encode.Post κs a s y
    → (r ≡ s) × (x.1.1.1.1.0.now ≡ y.1.1.1.1.0.now)
one-encode κs a r s x y p q = (one-told p.0 q.0, plain p.1 q.1)

pub one-open : (κs a r s x y : _) → opening.Post κs a r x → opening.Post κs a s y → r ≡ s
one-open κs a r s x y = one-told

pub one-copy-payload : (κs a r s x y : _) → copying.Post κs a r x → copying.Post κs a s y → (r ≡ s) × (x.1.0.now ≡ y.1.0.now)
one-copy-payload κs a r s x y p q = (one-told p.0 q.0, plain p.1 q.1)
