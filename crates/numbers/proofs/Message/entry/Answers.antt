-- The list's entry is the rule's code.
-- The message's entries start at its shape's `first`, and `listed` reads them.
use Rattle.std.proofs.Common.{◌+◌, ◌∙◌, ap, get_or}
use Rattle.numbers.specs.declared.Shape.{Shape}
use Rattle.numbers.proofs.Divisors.{divisors, listed}
use Rattle.numbers.proofs.Message.entry.Goals as goal

pub returns : goal.returns
returns c = ap (λ (s : Shape). get_or divisors (s.first + c.args.number) 0) c.shape.ensures ∙ listed c.args.self c.args.number c.requires
