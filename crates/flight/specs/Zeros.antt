-- The default record of each message is the table of zeros, as the trait of records wants.
-- Each of its numbers is zero, and so is each number of its arrays.
use Rattle.std.specs.Prelude.{◌≡◌, pos}
use lib.Ieee.{of_bits}
use Rattle.general.specs.Number.{zero_float}
use Rattle.layout.proofs.Alike.{alike}
use Rattle.flight.specs.Decoding.{zeros}
use Rattle.flight.specs.declared.flight_result.FlightResult.{FlightResult}
use Rattle.flight.specs.contracts.flight_result.FlightResultDefault.TheImpl as flight-result
use Rattle.flight.specs.FlightResultFields.{flight_result}
use Rattle.flight.specs.declared.flight_result_v1.FlightResultV1.{FlightResultV1}
use Rattle.flight.specs.contracts.flight_result_v1.FlightResultV1Default.TheImpl as flight-result-v1
use Rattle.flight.specs.FlightResultV1Fields.{flight_result_v1}
use Rattle.flight.specs.declared.club_result.ClubResult.{ClubResult}
use Rattle.flight.specs.contracts.club_result.ClubResultDefault.TheImpl as club-result
use Rattle.flight.specs.ClubResultFields.{club_result}

pub flight-zeros : (r : FlightResult) → flight-result.is_default-value.it r → r ≡ flight_result zeros
unfolding of_bits
flight-zeros r (x1, (x2, (x3, (x4, (x5, (x6, (x7, (x8, (x9, (x10, (x11, (x12, (x13, (x14, (x15, (x16, (x17, (x18, (x19, (x20, (x21, (x22, (x23, (x24, (x25, (x26, (x27, (x28, (x29, x30))))))))))))))))))))))))))))) =
    λ i.
    record {
      total = x1 i;
      track_time = x2 i;
      start_position = alike _ r.start_position 3 (λ _. zero_float) (λ x k e. e) x3 i;
      launch_speed = x4 i;
      launch_azimuth = x5 i;
      launch_elevation = x6 i;
      carry_distance = x7 i;
      flight_time = x8 i;
      max_height = x9 i;
      landing_position = alike _ r.landing_position 3 (λ _. zero_float) (λ x k e. e) x10 i;
      backspin_rpm = x11 i;
      sidespin_rpm = x12 i;
      riflespin_rpm = x13 i;
      landing_spin_rpm = alike _ r.landing_spin_rpm 3 (λ _. pos 0) (λ x k e. e) x14 i;
      landing_velocity = alike _ r.landing_velocity 3 (λ _. zero_float) (λ x k e. e) x15 i;
      total_distance = x16 i;
      roll_distance = x17 i;
      final_position = alike _ r.final_position 3 (λ _. zero_float) (λ x k e. e) x18 i;
      clubhead_speed = x19 i;
      club_strike_direction = x20 i;
      club_attack_angle = x21 i;
      clubhead_speed_post = x22 i;
      club_swing_plane_tilt = x23 i;
      club_swing_plane_rotation = x24 i;
      club_effective_loft = x25 i;
      club_face_angle = x26 i;
      poly_scale = x27 i;
      poly_x = alike _ r.poly_x 5 (λ _. zero_float) (λ x k e. e) x28 i;
      poly_y = alike _ r.poly_y 5 (λ _. zero_float) (λ x k e. e) x29 i;
      poly_z = alike _ r.poly_z 5 (λ _. zero_float) (λ x k e. e) x30 i;
    }

pub flight-v1-zeros : (r : FlightResultV1) → flight-result-v1.is_default-value.it r → r ≡ flight_result_v1 zeros
unfolding of_bits
flight-v1-zeros r (x1, (x2, (x3, (x4, (x5, (x6, (x7, (x8, (x9, (x10, (x11, (x12, (x13, (x14, (x15, (x16, (x17, (x18, x19)))))))))))))))))) =
    λ i.
    record {
      total = x1 i;
      club_velocity = x2 i;
      ball_velocity = x3 i;
      flight_time = x4 i;
      distance = x5 i;
      height = x6 i;
      lateral = x7 i;
      elevation = x8 i;
      azimuth = x9 i;
      tracked_time = x10 i;
      drag = x11 i;
      backspin_rpm = x12 i;
      sidespin_rpm = x13 i;
      acceleration = x14 i;
      club_strike_direction = x15 i;
      poly_scale = x16 i;
      poly_x = alike _ r.poly_x 5 (λ _. zero_float) (λ x k e. e) x17 i;
      poly_y = alike _ r.poly_y 5 (λ _. zero_float) (λ x k e. e) x18 i;
      poly_z = alike _ r.poly_z 5 (λ _. zero_float) (λ x k e. e) x19 i;
    }

pub club-zeros : (r : ClubResult) → club-result.is_default-value.it r → r ≡ club_result zeros
unfolding of_bits
club-zeros r (x1, (x2, (x3, (x4, (x5, (x6, (x7, (x8, (x9, (x10, (x11, (x12, (x13, (x14, (x15, (x16, (x17, (x18, (x19, (x20, x21)))))))))))))))))))) =
    λ i.
    record {
      num_club_prc_points = x1 i;
      flags = x2 i;
      pre_club_speed = x3 i;
      post_club_speed = x4 i;
      strike_direction = x5 i;
      attack_angle = x6 i;
      face_angle = x7 i;
      dynamic_loft = x8 i;
      smash_factor = x9 i;
      dispersion_correction = x10 i;
      swing_plane_horizontal = x11 i;
      swing_plane_vertical = x12 i;
      club_azimuth = x13 i;
      club_elevation = x14 i;
      club_offset = x15 i;
      club_height = x16 i;
      poly_scale = x17 i;
      poly_coeffs = alike _ r.poly_coeffs 36 (λ _. zero_float) (λ x k e. e) x18 i;
      pre_impact_time = x19 i;
      post_impact_time = x20 i;
      club_to_ball_time = x21 i;
    }
