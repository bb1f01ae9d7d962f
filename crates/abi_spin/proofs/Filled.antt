-- A run of stores that fills a list leaves what was stored.
-- So the zeros that an array starts with are all gone.
use mathlib.Core.Path.{◌≡◌, refl, ◌∙◌}
use mathlib.Core.List.{List, [], ◌∷◌, append-nil}
use native.Mathlib.Omega.{arith}
use native.Mathlib.Nat.{zero-add}
use lib.ListN.{length, drop, length-drop}
use lib.Seq.{sets, sets-eq}

none : {A : Type 0} (l : List A) → length l ≡ 0 → l ≡ []
none [] h = refl
none (x ∷ l) h = let z : ⊥ = omega arith in absurd z

module _ {A : Type 0} where
  pub filled : (xs l : List A) → length l ≡ length xs → sets l 0 xs ≡ xs
  filled xs l h =
      let rest : length (drop (length xs) l) ≡ 0 = simp length-drop (omega arith) in
      sets-eq xs l 0 (omega arith) ∙ rw (zero-add, none (drop (length xs) l) rest) (append-nil xs)
