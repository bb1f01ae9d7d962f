-- INT24 at the number's place.
-- Place and sum stay small, since no message has more than 55 numbers.
use Rattle.std.proofs.Common.{ap, ◌∙◌, ◌+◌, ◌*◌, w32}
use Rattle.integer.specs.Fields.{int_at}
use Rattle.layout.proofs.Held.{held}
use Rattle.numbers.specs.declared.Shape.{Shape}
use Rattle.numbers.specs.Numbers.{whole_of}
use Rattle.numbers.proofs.Message.inside.Goals as goal

pub returns : goal.returns
unfolding whole_of
returns c =
    held w32
    (c.int24_at.ensures ∙ ap (λ (s : Shape). int_at 3 c.args.payload.now (s.base + 3 * c.args.number)) c.shape.ensures)
    c.int24_at.type_inv
