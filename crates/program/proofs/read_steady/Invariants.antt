-- `read_steady` meets its contract. The invariant: what was so of the sink before the first piece is so between two.
-- What is so of every value needs none.
use Rattle.program.proofs.read_steady.Given as goal

abbrev pub invariant-loop : goal.invariant-loop
invariant-loop g l = g.S.Steady.stands l.fn.sink → g.S.Steady.stands l.sink
