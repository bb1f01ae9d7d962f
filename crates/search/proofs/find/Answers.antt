-- `find` meets its contract: each return is one case of a step.
-- The byte is at i, or i is the end.
use Rattle.std.proofs.Common.{sym, ◌∙◌}
use Rattle.search.proofs.First.{first-hit, first-miss, first-end}
use Rattle.search.proofs.find.Goals as goal

pub returns-then-a-i : goal.returns-then-a-i
returns-then-a-i c = sym (c.loop-i.invariant ∙ first-hit _ _ _ c.loop-i-test.true c.if-a-i.true)

pub loop-i-preserved : goal.loop-i-preserved
loop-i-preserved c = c.loop-i.invariant ∙ first-miss _ _ _ c.loop-i-test.true c.if-a-i.false

pub returns : goal.returns
returns c = sym (c.loop-i.invariant ∙ first-end _ _ _ c.loop-i-test.false)
