-- The numbers of D4, E8 and ED in their record's order: first whole numbers, then floats, each in a list of its own.
-- An array stands in its place, one number after the other.
use Rattle.std.specs.Prelude.{ℕ, List, [], ◌∷◌, ◌++◌, get_or, ℤ, pos, Float}
use Rattle.std.specs.Float.{nan}
use Rattle.layout.specs.Layout.{row}
use Rattle.flight.specs.declared.flight_result.FlightResult.{FlightResult}
use Rattle.flight.specs.declared.flight_result_v1.FlightResultV1.{FlightResultV1}
use Rattle.flight.specs.declared.club_result.ClubResult.{ClubResult}

-- the first n of an array
abbrev pub front : ℕ → List Float → List Float
front n xs = row n (λ k. get_or xs k nan)

abbrev pub flight_whole : FlightResult → List ℤ
flight_whole r =
    r.total ∷ r.backspin_rpm ∷ r.sidespin_rpm ∷ r.riflespin_rpm ∷ row 3 (λ k. get_or r.landing_spin_rpm k (pos 0))
    ++ r.poly_scale ∷ []

abbrev pub flight_figures : FlightResult → List Float
flight_figures r =
    r.track_time ∷ front 3 r.start_position ++ r.launch_speed ∷ r.launch_azimuth ∷ r.launch_elevation
    ∷ r.carry_distance ∷ r.flight_time ∷ r.max_height ∷ front 3 r.landing_position
    ++ front 3 r.landing_velocity ++ r.total_distance ∷ r.roll_distance ∷ front 3 r.final_position
    ++ r.clubhead_speed ∷ r.club_strike_direction ∷ r.club_attack_angle ∷ r.clubhead_speed_post
    ∷ r.club_swing_plane_tilt ∷ r.club_swing_plane_rotation ∷ r.club_effective_loft ∷ r.club_face_angle
    ∷ front 5 r.poly_x ++ front 5 r.poly_y ++ front 5 r.poly_z

abbrev pub flight_v1_whole : FlightResultV1 → List ℤ
flight_v1_whole r = r.total ∷ r.backspin_rpm ∷ r.sidespin_rpm ∷ r.poly_scale ∷ []

abbrev pub flight_v1_figures : FlightResultV1 → List Float
flight_v1_figures r =
    r.club_velocity ∷ r.ball_velocity ∷ r.flight_time ∷ r.distance ∷ r.height ∷ r.lateral ∷ r.elevation
    ∷ r.azimuth ∷ r.tracked_time ∷ r.drag ∷ r.acceleration ∷ r.club_strike_direction
    ∷ front 5 r.poly_x ++ front 5 r.poly_y ++ front 5 r.poly_z

abbrev pub club_whole : ClubResult → List ℤ
club_whole r = pos r.num_club_prc_points ∷ r.flags ∷ r.poly_scale ∷ []

abbrev pub club_figures : ClubResult → List Float
club_figures r =
    r.pre_club_speed ∷ r.post_club_speed ∷ r.strike_direction ∷ r.attack_angle ∷ r.face_angle
    ∷ r.dynamic_loft ∷ r.smash_factor ∷ r.dispersion_correction ∷ r.swing_plane_horizontal
    ∷ r.swing_plane_vertical ∷ r.club_azimuth ∷ r.club_elevation ∷ r.club_offset ∷ r.club_height
    ∷ front 36 r.poly_coeffs ++ r.pre_impact_time ∷ r.post_impact_time ∷ r.club_to_ball_time ∷ []
