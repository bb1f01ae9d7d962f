-- What is left of `of_bits`: bit 23 is the sign, and tells which half the number is in.
-- `Halves` has both.
use Rattle.float40.proofs.Halves.{lower, upper}
use Rattle.float40.proofs.bits.Mantissa.of_bits.Goals as goal

pub returns-then-bits-eq0 : goal.returns-then-bits-eq0
returns-then-bits-eq0 c = lower c.args.bits c.requires c.if-bits-eq0.true

pub returns-else-bits-eq0 : goal.returns-else-bits-eq0
returns-else-bits-eq0 c = upper c.args.bits c.requires c.if-bits-eq0.false
