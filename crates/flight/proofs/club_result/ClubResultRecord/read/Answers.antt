-- Each number and figure in the field of its name, and what is read by the list is the message's.
-- `(λ N. refl)` shows that no field takes a count for a figure; the list's law does the rest.
use Rattle.std.proofs.Common.{◌≡◌, refl, ◌∙◌, w32}
use Rattle.layout.proofs.Held.{held}
use Rattle.numbers.specs.declared.Message.TheVariants as message
use Rattle.numbers.specs.Numbers.{rule_of}
use Rattle.flight.specs.Private.{numbers_in}
use Rattle.flight.specs.ClubResultFields.{club_result}
use Rattle.flight.proofs.Ruled.{ruled}
use Rattle.flight.proofs.club_result.ClubResultRecord.read.Goals as goal

pub returns : goal.returns
unfolding rule_of
returns c =
    let p = c.args.payload.now in
    let all : _ ≡ club_result (numbers_in message.ClubResult p c.scale.result) = λ i.
    record {
      num_club_prc_points = c.byte_at.ensures i;
      flags = held w32 c.whole.ensures c.whole.type_inv i;
      pre_club_speed = c.figure.ensures i;
      post_club_speed = c.figure-2.ensures i;
      strike_direction = c.figure-3.ensures i;
      attack_angle = c.figure-4.ensures i;
      face_angle = c.figure-5.ensures i;
      dynamic_loft = c.figure-6.ensures i;
      smash_factor = c.figure-7.ensures i;
      dispersion_correction = c.figure-8.ensures i;
      swing_plane_horizontal = c.figure-9.ensures i;
      swing_plane_vertical = c.figure-10.ensures i;
      club_azimuth = c.figure-11.ensures i;
      club_elevation = c.figure-12.ensures i;
      club_offset = c.figure-13.ensures i;
      club_height = c.figure-14.ensures i;
      poly_scale = held w32 c.whole-2.ensures c.whole-2.type_inv i;
      poly_coeffs = c.coefficients.ensures i;
      pre_impact_time = c.figure-15.ensures i;
      post_impact_time = c.figure-16.ensures i;
      club_to_ball_time = c.figure-17.ensures i;
    } in
    all ∙ ruled message.ClubResult club_result (λ N. refl) p c.scale.ensures
