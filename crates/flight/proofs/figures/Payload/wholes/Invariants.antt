-- The loop's invariant: the first k numbers stand in their places.
-- What stands behind them is not asked.
use Rattle.std.proofs.Common.{ℕ, ◌+◌, pos}
use Rattle.numbers.specs.Numbers.{whole_of}
use Rattle.flight.proofs.Row.{Filled}
use Rattle.flight.proofs.figures.Payload.wholes.Given as goal

abbrev pub invariant-loop-k : goal.invariant-loop-k
invariant-loop-k g l = Filled (λ (j : ℕ). whole_of l.self.message l.self.bytes.now (l.number + j)) (pos 0) g.row.N l.k l.row
