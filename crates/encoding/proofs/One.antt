-- Two replies that `encode`'s contract allows for one input are equal, and so are the buffers that they leave,
-- by the contract as the check reads it off src/ (`Post`): what a reply tells decides it, the buffer is a plain equation.
use Rattle.std.proofs.Common.{◌≡◌}
use Rattle.general.proofs.One.{plain}
use Rattle.error.proofs.Decides.{one-told}
use Rattle.encoding.proofs.encode.Reads as encode

pub one-encode : (κs a r s x y : _) → encode.Post κs a r x → encode.Post κs a s y
    → (r ≡ s) × (x.1.1.1.1.0.now ≡ y.1.1.1.1.0.now)
one-encode κs a r s x y p q = (one-told p.0 q.0, plain p.1 q.1)
