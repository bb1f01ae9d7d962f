-- `read_all` meets its contract. The invariant: what was so of the sink before the first piece is so between two.
-- The room for a piece has N bytes, as its type says.
use Rattle.program.proofs.read_all.Given as goal

abbrev pub invariant-loop-turn : goal.invariant-loop-turn
invariant-loop-turn g l = g.S.Sink.stands l.fn.sink → g.S.Sink.stands l.sink
