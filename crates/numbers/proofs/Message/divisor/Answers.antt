-- The list's entry where there is one, and past the last it is the scale's.
-- The shape says how many numbers there are.
use Rattle.std.proofs.Common.{◌≤◌, sym}
use Rattle.numbers.specs.Numbers.{count_of}
use Rattle.numbers.proofs.Divisors.{rule-past}
use Rattle.numbers.proofs.Message.divisor.Goals as goal

pub returns-else-number-shape : goal.returns-else-number-shape
returns-else-number-shape c =
    let h : count_of c.args.self ≤ c.args.number = rw c.shape.ensures at c.if-number-shape.false in
    sym (rule-past c.args.self c.args.number h)
