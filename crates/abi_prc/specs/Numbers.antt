-- The numbers of EC's records as C takes them: the whole ones, then the floats, in the record's order.
-- An i16 and a byte count as an i32.
use Rattle.std.specs.Prelude.{ℕ, List, [], ◌∷◌, ℤ, pos, Float}
use Rattle.prc.specs.declared.prc_point.PrcPoint.{PrcPoint}
use Rattle.prc.specs.declared.prc_data.PrcData.{PrcData}

abbrev pub data_numbers : PrcData → ℤ × ℕ
data_numbers d = (d.sequence, d.points)

abbrev pub prc_whole : PrcPoint → List ℤ
prc_whole p =
    p.index ∷ p.peak ∷ p.snr ∷ p.buf_idx ∷ pos p.flags ∷ p.time ∷ p.sync_idx ∷ p.sync_buf ∷ []

abbrev pub prc_figures : PrcPoint → List Float
prc_figures p =
    p.n ∷ p.az ∷ p.el ∷ p.vel ∷ p.dist ∷ p.az1 ∷ p.az2 ∷ p.az3 ∷ p.el1 ∷ p.el2 ∷ p.pk

abbrev pub prc_numbers : PrcPoint → List ℤ × List Float
prc_numbers p = (prc_whole p, prc_figures p)
