-- Each number and figure in the field of its name, and what is read by the list is the message's.
-- `(λ N. refl)` shows that no field takes a count for a figure; the list's law does the rest.
use Rattle.std.proofs.Common.{◌≡◌, refl, ◌∙◌, w32}
use Rattle.layout.proofs.Held.{held}
use Rattle.numbers.specs.declared.Message.TheVariants as message
use Rattle.numbers.specs.Numbers.{rule_of}
use Rattle.flight.specs.Private.{numbers_in}
use Rattle.flight.specs.FlightResultV1Fields.{flight_result_v1}
use Rattle.flight.proofs.Ruled.{ruled}
use Rattle.flight.proofs.flight_result_v1.FlightResultV1Record.read.Goals as goal

pub returns : goal.returns
unfolding rule_of
returns c =
    let p = c.args.payload.now in
    let all : _ ≡ flight_result_v1 (numbers_in message.FlightResultV1 p c.scale.result) = λ i.
    record {
      total = held w32 c.whole.ensures c.whole.type_inv i;
      club_velocity = c.figure.ensures i;
      ball_velocity = c.figure-2.ensures i;
      flight_time = c.figure-3.ensures i;
      distance = c.figure-4.ensures i;
      height = c.figure-5.ensures i;
      lateral = c.figure-6.ensures i;
      elevation = c.figure-7.ensures i;
      azimuth = c.figure-8.ensures i;
      tracked_time = c.figure-9.ensures i;
      drag = c.figure-10.ensures i;
      backspin_rpm = held w32 c.whole-2.ensures c.whole-2.type_inv i;
      sidespin_rpm = held w32 c.whole-3.ensures c.whole-3.type_inv i;
      acceleration = c.figure-11.ensures i;
      club_strike_direction = c.figure-12.ensures i;
      poly_scale = held w32 c.whole-4.ensures c.whole-4.type_inv i;
      poly_x = c.figures.ensures i;
      poly_y = c.figures-2.ensures i;
      poly_z = c.figures-3.ensures i;
    } in
    all ∙ ruled message.FlightResultV1 flight_result_v1 (λ N. refl) p c.scale.ensures
