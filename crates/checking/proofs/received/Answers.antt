-- `received`: the checksum's two bytes are read one after the other.
-- The first is the high one.
use Rattle.checking.proofs.Reading.{low-proper, low-inside}
use Rattle.checking.proofs.received.Goals as goal

pub value-low-requires : goal.value-low-requires
value-low-requires c = rw c.next.ensures (low-proper c.args.s.now c.args.at c.requires, low-inside c.args.s.now c.args.at c.requires)
