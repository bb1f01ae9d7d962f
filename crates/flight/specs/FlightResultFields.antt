-- Document 01, 'Messages': the fields of D4, each under the source's name with its number.
-- `flight_result` fills the record; `flight_result_numbers` lists it again by number.
use Rattle.std.specs.Prelude.{List, [], ◌∷◌, ◌++◌, map}
use Rattle.numbers.specs.Asked.{Number, whole, figure}
use Rattle.flight.specs.declared.flight_result.FlightResult.{FlightResult}
use Rattle.flight.specs.Decoding.{Numbers, run}

abbrev pub flight_result : Numbers → FlightResult
flight_result n =
    record {
      total = n.whole 0;
      track_time = n.figure 1;
      start_position = run 3 n.figure 2;
      launch_speed = n.figure 5;
      launch_azimuth = n.figure 6;
      launch_elevation = n.figure 7;
      carry_distance = n.figure 8;
      flight_time = n.figure 9;
      max_height = n.figure 10;
      landing_position = run 3 n.figure 11;
      backspin_rpm = n.whole 14;
      sidespin_rpm = n.whole 15;
      riflespin_rpm = n.whole 16;
      landing_spin_rpm = run 3 n.whole 17;
      landing_velocity = run 3 n.figure 20;
      total_distance = n.figure 23;
      roll_distance = n.figure 24;
      final_position = run 3 n.figure 25;
      clubhead_speed = n.figure 28;
      club_strike_direction = n.figure 29;
      club_attack_angle = n.figure 30;
      clubhead_speed_post = n.figure 31;
      club_swing_plane_tilt = n.figure 32;
      club_swing_plane_rotation = n.figure 33;
      club_effective_loft = n.figure 34;
      club_face_angle = n.figure 35;
      poly_scale = n.whole 36;
      poly_x = run 5 n.figure 37;
      poly_y = run 5 n.figure 42;
      poly_z = run 5 n.figure 47;
    }

abbrev pub flight_result_numbers : FlightResult → List Number
flight_result_numbers r =
    whole r.total ∷ figure r.track_time ∷ map figure r.start_position ++ figure r.launch_speed ∷
    figure r.launch_azimuth ∷ figure r.launch_elevation ∷ figure r.carry_distance ∷
    figure r.flight_time ∷ figure r.max_height ∷ map figure r.landing_position ++
    whole r.backspin_rpm ∷ whole r.sidespin_rpm ∷ whole r.riflespin_rpm ∷ map whole r.landing_spin_rpm ++
    map figure r.landing_velocity ++ figure r.total_distance ∷ figure r.roll_distance ∷
    map figure r.final_position ++ figure r.clubhead_speed ∷ figure r.club_strike_direction ∷
    figure r.club_attack_angle ∷ figure r.clubhead_speed_post ∷ figure r.club_swing_plane_tilt ∷
    figure r.club_swing_plane_rotation ∷ figure r.club_effective_loft ∷ figure r.club_face_angle ∷
    whole r.poly_scale ∷ map figure r.poly_x ++ map figure r.poly_y ++ map figure r.poly_z ++
    []
