-- What is left of `mvd_field`: a byte that is the type of no message is refused, as it was told.
-- Where it names a message, the check finds the rest.
use Rattle.std.proofs.Common.{ap}
use Rattle.error.specs.Refusal.{Told, and_then}
use Rattle.numbers.specs.declared.Message.{Message}
use Rattle.abi.proofs.Passing.{refuses}
use Rattle.abi_numbers.specs.Question.{field_of, asked_of}
use Rattle.abi_numbers.proofs.mvd_field.Goals as goal

pub returns-in-Err : goal.returns-in-Err
unfolding asked_of
returns-in-Err c =
    let a = c.args in
    refuses c.in-Err.e
    (ap (λ (t : Told Message). and_then t (λ m. field_of m a.payload.now a.number (a.count.now, a.figure.now, a.is_figure.now))) c.in-Err.ensures) _ _
    c.tell.ensures
