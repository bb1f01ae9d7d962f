-- `skip` meets its contract: a block that has no b is passed.
-- What is sought goes on behind it.
use Rattle.std.proofs.Common.{sym, ◌∙◌, arith}
use Rattle.search.proofs.First.{first-past}
use Rattle.search.proofs.skip.Goals as goal

pub loop-i-preserved : goal.loop-i-preserved
loop-i-preserved c = (
  omega arith,
  c.loop-i.invariant.1 ∙ first-past c.args.b c.loop-i.i 16 c.args.a.now (omega arith) (sym c.has.ensures ∙ c.if-has.false),
)
