-- `enough` meets its contract: 2n + 12 bytes are enough for any wire of n bytes of payload.
-- Where there is less room, it tells what `measure` does.
use Rattle.std.proofs.Common.{arith}
use Rattle.encoding.specs.Parts.{fields_of}
use Rattle.encoding.proofs.Writing.{wire-most}
use Rattle.encoding.proofs.parts.Parts.enough.Goals as goal

pub returns-then-room-most-clause-need : goal.returns-then-room-most-clause-need
returns-then-room-most-clause-need c = (wire-most (fields_of c.args.self.now), λ q. absurd (omega arith))
