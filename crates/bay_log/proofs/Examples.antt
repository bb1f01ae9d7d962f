-- Request 5: shown figures computed from the definition, with halves and both ends of INT24 among them.
-- Each row has the thousandths, and the tenths that the log shows.
use mathlib.Core.Path.{◌≡◌, refl}
use mathlib.Core.List.{List, [], ◌∷◌, map}
use lib.IntN.{ℤ, pos, neg_ℤ}
use Rattle.bay_log.specs.Log.{tenths, shown_of}

abbrev pub figures : List (ℤ × ℤ)
figures =
    (pos 1250, pos 13)
    ∷ (neg_ℤ (pos 1250), neg_ℤ (pos 13))
    ∷ (pos 1249, pos 12)
    ∷ (neg_ℤ (pos 1249), neg_ℤ (pos 12))
    ∷ (pos 0, pos 0)
    ∷ (pos 49, pos 0)
    ∷ (pos 50, pos 1)
    ∷ (neg_ℤ (pos 50), neg_ℤ (pos 1))
    ∷ (pos 8388607, pos 83886)
    ∷ (neg_ℤ (pos 8388608), neg_ℤ (pos 83886))
    ∷ []

pub examples-shown : map (λ (f : ℤ × ℤ). shown_of f.0) figures ≡ map (λ (f : ℤ × ℤ). f.1) figures
unfolding shown_of tenths
examples-shown = refl
