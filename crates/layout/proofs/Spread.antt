-- A list of n elements is the row of them.
-- So a list of fixed length is said element by element.
use Prim.Native.Nat.{ℕ, zero, suc}
use mathlib.Core.Path.{◌≡◌, refl, ap}
use mathlib.Core.List.{List, [], ◌∷◌}
use native.Mathlib.Omega.{arith}
use lib.ListN.{length, get_or}
use Rattle.layout.specs.Layout.{row}

pub spread : {A : Type 0} (n : ℕ) (l : List A) (d : A) → length l ≡ n → row n (λ k. get_or l k d) ≡ l
spread zero [] d p = refl
spread zero (x ∷ l) d p = let z : ⊥ = omega arith in absurd z
spread (suc n) [] d p = let z : ⊥ = omega arith in absurd z
spread {A} (suc n) (x ∷ l) d p = ap (λ (t : List A). x ∷ t) (spread n l d (omega arith))
