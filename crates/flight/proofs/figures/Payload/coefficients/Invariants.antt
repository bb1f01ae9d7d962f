-- The loop's invariant: the first 3k figures stand in their places.
-- Each is its number by the one divisor.
use Rattle.std.proofs.Common.{ℕ, List, ◌+◌, ◌*◌}
use Rattle.std.specs.Prelude.{Float}
use Rattle.std.specs.Float.{nan}
use Rattle.integer.specs.Fields.{scaled_by}
use Rattle.numbers.specs.declared.Message.{Message}
use Rattle.numbers.specs.Numbers.{whole_of, entry_of}
use Rattle.flight.proofs.Row.{Filled}
use Rattle.flight.proofs.figures.Payload.coefficients.Given as goal

-- figure j of the row
abbrev pub placed : Message → List ℕ → ℕ → ℕ → Float → ℕ → Float
placed m p n d s j = scaled_by (entry_of d s) (whole_of m p (n + j))

abbrev pub invariant-loop-k : goal.invariant-loop-k
invariant-loop-k l = Filled (placed l.self.message l.self.bytes.now l.number l.divisor l.self.scale) nan 36 (3 * l.k) l.figures
