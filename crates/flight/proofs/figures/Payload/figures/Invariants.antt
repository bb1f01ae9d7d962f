-- The loop's invariant: the first k numbers stand in their places.
-- What stands behind them is not asked.
use Rattle.std.proofs.Common.{ℕ, ◌+◌}
use Rattle.std.specs.Float.{nan}
use Rattle.flight.specs.Private.{figure_by}
use Rattle.flight.proofs.Row.{Filled}
use Rattle.flight.proofs.figures.Payload.figures.Given as goal

abbrev pub invariant-loop-k : goal.invariant-loop-k
invariant-loop-k g l = Filled (λ (j : ℕ). figure_by l.self.message l.self.bytes.now l.self.scale (l.number + j)) (nan) g.row.N l.k l.row
