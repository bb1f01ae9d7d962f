-- Document 01, 'Messages': the fields of E8, each under the source's name with its number.
-- `flight_result_v1` fills the record; `flight_result_v1_numbers` lists it again by number.
use Rattle.std.specs.Prelude.{List, [], ◌∷◌, ◌++◌, map}
use Rattle.numbers.specs.Asked.{Number, whole, figure}
use Rattle.flight.specs.declared.flight_result_v1.FlightResultV1.{FlightResultV1}
use Rattle.flight.specs.Decoding.{Numbers, run}

abbrev pub flight_result_v1 : Numbers → FlightResultV1
flight_result_v1 n =
    record {
      total = n.whole 0;
      club_velocity = n.figure 1;
      ball_velocity = n.figure 2;
      flight_time = n.figure 3;
      distance = n.figure 4;
      height = n.figure 5;
      lateral = n.figure 6;
      elevation = n.figure 7;
      azimuth = n.figure 8;
      tracked_time = n.figure 9;
      drag = n.figure 10;
      backspin_rpm = n.whole 11;
      sidespin_rpm = n.whole 12;
      acceleration = n.figure 13;
      club_strike_direction = n.figure 14;
      poly_scale = n.whole 15;
      poly_x = run 5 n.figure 16;
      poly_y = run 5 n.figure 21;
      poly_z = run 5 n.figure 26;
    }

abbrev pub flight_result_v1_numbers : FlightResultV1 → List Number
flight_result_v1_numbers r =
    whole r.total ∷ figure r.club_velocity ∷ figure r.ball_velocity ∷ figure r.flight_time ∷
    figure r.distance ∷ figure r.height ∷ figure r.lateral ∷ figure r.elevation ∷
    figure r.azimuth ∷ figure r.tracked_time ∷ figure r.drag ∷ whole r.backspin_rpm ∷
    whole r.sidespin_rpm ∷ figure r.acceleration ∷ figure r.club_strike_direction ∷
    whole r.poly_scale ∷ map figure r.poly_x ++ map figure r.poly_y ++ map figure r.poly_z ++
    []
