-- Document 01, 'Messages': the fields of ED, each under the source's name with its number.
-- `club_result` fills the record; `club_result_numbers` lists it again by number.
use Rattle.std.specs.Prelude.{List, [], ◌∷◌, ◌++◌, map}
use Rattle.numbers.specs.Asked.{Number, whole, figure}
use Rattle.flight.specs.declared.club_result.ClubResult.{ClubResult}
use Rattle.flight.specs.Decoding.{Numbers, run}

abbrev pub club_result : Numbers → ClubResult
club_result n =
    record {
      num_club_prc_points = n.byte 1;
      flags = n.whole 0;
      pre_club_speed = n.figure 1;
      post_club_speed = n.figure 2;
      strike_direction = n.figure 3;
      attack_angle = n.figure 4;
      face_angle = n.figure 5;
      dynamic_loft = n.figure 6;
      smash_factor = n.figure 7;
      dispersion_correction = n.figure 8;
      swing_plane_horizontal = n.figure 9;
      swing_plane_vertical = n.figure 10;
      club_azimuth = n.figure 11;
      club_elevation = n.figure 12;
      club_offset = n.figure 13;
      club_height = n.figure 14;
      poly_scale = n.whole 15;
      poly_coeffs = run 36 n.figure 16;
      pre_impact_time = n.figure 52;
      post_impact_time = n.figure 53;
      club_to_ball_time = n.figure 54;
    }

abbrev pub club_result_numbers : ClubResult → List Number
club_result_numbers r =
    whole r.flags ∷ figure r.pre_club_speed ∷ figure r.post_club_speed ∷ figure r.strike_direction ∷
    figure r.attack_angle ∷ figure r.face_angle ∷ figure r.dynamic_loft ∷ figure r.smash_factor ∷
    figure r.dispersion_correction ∷ figure r.swing_plane_horizontal ∷ figure r.swing_plane_vertical ∷
    figure r.club_azimuth ∷ figure r.club_elevation ∷ figure r.club_offset ∷
    figure r.club_height ∷ whole r.poly_scale ∷ map figure r.poly_coeffs ++
    figure r.pre_impact_time ∷ figure r.post_impact_time ∷ figure r.club_to_ball_time ∷
    []
