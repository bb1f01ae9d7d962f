-- Two replies that a contract of `blocks` allows for one input are equal, by the contract as the check reads it off src/ (`Post`).
-- `put_block` replies nothing: its two buffers at exit are equal.
use mathlib.Core.Path.{◌≡◌}
use Rattle.general.proofs.One.{plain}
use Rattle.blocks.proofs.block.Reads as block
use Rattle.blocks.proofs.put_block.Reads as put-block

pub one_block : (κs a r s x y : _) → block.Post κs a r x → block.Post κs a s y → r ≡ s
one_block κs a r s x y = plain

pub one-put-block : (κs a r s x y : _) → put-block.Post κs a r x → put-block.Post κs a s y → x.1.0.now ≡ y.1.0.now
one-put-block κs a r s x y = plain
