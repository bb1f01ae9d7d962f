-- What layout's decoder answers of the record is the message's rule.
-- Which message that is, the record says.
use Rattle.numbers.specs.declared.Message.TheVariants as message
use Rattle.flight.specs.ClubResultFields.{club_result}
use Rattle.flight.proofs.Decided.{by_rule}
use Rattle.flight.proofs.club_result.ClubResult.decode.Goals as goal

pub returns : goal.returns
returns c = by_rule message.ClubResult club_result c.args.payload.now c.decode.result c.decode.ensures.result_value c.decode.ensures.record_value
