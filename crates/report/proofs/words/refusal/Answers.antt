-- Behind the number stand three values at most.
use Rattle.std.proofs.Common.{arith}
use Rattle.report.proofs.Values.{at-most-3}
use Rattle.report.proofs.words.refusal.Goals as goal

pub number-requires-3 : goal.number-requires-3
number-requires-3 c = omega (arith, at-most-3 c.args.e, c.loop-i.invariant.few)
