-- What is left of `uint16_at`: what std makes of the bytes is their big-endian number.
-- The bytes are those at the place.
use Rattle.std.proofs.Common.{arith}
use Rattle.integer.specs.Fields.{be_at}
use Rattle.integer.proofs.uint16_at.Goals as goal

pub returns : goal.returns
unfolding be_at
returns c =
    let b = c.bytes_at.ensures in
    omega (arith, c.from_be_bytes.ensures, b 0 (omega arith), b 1 (omega arith))
