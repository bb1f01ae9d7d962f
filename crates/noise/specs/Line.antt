-- Between two pieces of a capture: the splitter is one that calls of `take_all` lead to, from fresh, with a hold buffer of zeros.
-- So the calls are those of a run (line_noise: specs/Program).
use Rattle.std.specs.Prelude.{List, ℕ, replicate}
use Rattle.splitter.specs.declared.FrameSplitter.{FrameSplitter}
use Rattle.line_noise.specs.Piece.{between}
use Rattle.line_noise.specs.Program.{Reached}

abbrev pub Between : FrameSplitter → List ℕ → Type 0
Between s hold = Reached (replicate 2048 0) (between s hold)
