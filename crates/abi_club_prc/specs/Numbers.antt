-- The numbers of EE's record as C takes them: the whole ones, then the floats, in the record's order.
-- An i16 and a byte count as an i32.
use Rattle.std.specs.Prelude.{List, [], ◌∷◌, ℤ, pos, Float}
use Rattle.club_prc.specs.declared.club_prc_point.ClubPrcPoint.{ClubPrcPoint}

abbrev pub club_whole : ClubPrcPoint → List ℤ
club_whole p =
    p.index ∷ p.buf_ofs ∷ p.peak ∷ p.snr ∷ p.buf_idx ∷ p.time ∷ pos p.version ∷ p.f39 ∷ p.f42 ∷ []

abbrev pub club_figures : ClubPrcPoint → List Float
club_figures p =
    p.n ∷ p.az ∷ p.el ∷ p.vel ∷ p.vel2 ∷ p.dist ∷ p.f30 ∷ p.f33 ∷ p.f45 ∷ p.az1 ∷ p.az2 ∷ p.az3 ∷ p.el1 ∷ p.el2
    ∷ p.pk

abbrev pub club_numbers : ClubPrcPoint → List ℤ × List Float
club_numbers p = (club_whole p, club_figures p)
