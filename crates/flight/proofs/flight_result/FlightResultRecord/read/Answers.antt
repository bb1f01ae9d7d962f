-- Each number and figure in the field of its name, and what is read by the list is the message's.
-- `(λ N. refl)` shows that no field takes a count for a figure; the list's law does the rest.
use Rattle.std.proofs.Common.{◌≡◌, refl, ◌∙◌, w32}
use Rattle.layout.proofs.Held.{held}
use Rattle.numbers.specs.declared.Message.TheVariants as message
use Rattle.numbers.specs.Numbers.{rule_of}
use Rattle.flight.specs.Private.{numbers_in}
use Rattle.flight.specs.FlightResultFields.{flight_result}
use Rattle.flight.proofs.Ruled.{ruled}
use Rattle.flight.proofs.flight_result.FlightResultRecord.read.Goals as goal

pub returns : goal.returns
unfolding rule_of
returns c =
    let p = c.args.payload.now in
    let all : _ ≡ flight_result (numbers_in message.FlightResult p c.scale.result) = λ i.
    record {
      total = held w32 c.whole.ensures c.whole.type_inv i;
      track_time = c.figure.ensures i;
      start_position = c.figures.ensures i;
      launch_speed = c.figure-2.ensures i;
      launch_azimuth = c.figure-3.ensures i;
      launch_elevation = c.figure-4.ensures i;
      carry_distance = c.figure-5.ensures i;
      flight_time = c.figure-6.ensures i;
      max_height = c.figure-7.ensures i;
      landing_position = c.figures-2.ensures i;
      backspin_rpm = held w32 c.whole-2.ensures c.whole-2.type_inv i;
      sidespin_rpm = held w32 c.whole-3.ensures c.whole-3.type_inv i;
      riflespin_rpm = held w32 c.whole-4.ensures c.whole-4.type_inv i;
      landing_spin_rpm = c.wholes.ensures i;
      landing_velocity = c.figures-3.ensures i;
      total_distance = c.figure-8.ensures i;
      roll_distance = c.figure-9.ensures i;
      final_position = c.figures-4.ensures i;
      clubhead_speed = c.figure-10.ensures i;
      club_strike_direction = c.figure-11.ensures i;
      club_attack_angle = c.figure-12.ensures i;
      clubhead_speed_post = c.figure-13.ensures i;
      club_swing_plane_tilt = c.figure-14.ensures i;
      club_swing_plane_rotation = c.figure-15.ensures i;
      club_effective_loft = c.figure-16.ensures i;
      club_face_angle = c.figure-17.ensures i;
      poly_scale = held w32 c.whole-5.ensures c.whole-5.type_inv i;
      poly_x = c.figures-5.ensures i;
      poly_y = c.figures-6.ensures i;
      poly_z = c.figures-7.ensures i;
    } in
    all ∙ ruled message.FlightResult flight_result (λ N. refl) p c.scale.ensures
