-- Document 01, 'Frames to prove or run': the wires (a) to (g) and the FLOAT40 fields (h) to (l), one list.
-- Each is computed from the rule that a contract cites, so it is about what the code answers.
use Rattle.frame.proofs.Examples.{Frames, examples-frames}
use Rattle.float40_write.proofs.Examples.{Float40Examples, examples-float40}

pub record Examples : Type 0 where
  -- a b c d e f g
  pub wires : Frames
  -- h i j k l
  pub floats : Float40Examples

pub examples : Examples
examples = record { wires = examples-frames; floats = examples-float40 }
