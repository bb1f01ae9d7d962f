-- A row laid into a list number by number, from a place on: one number more.
-- The loops that lay a row keep it, whatever the row is of.
use Prim.Native.Nat.{ℕ, ◌+◌, ◌<◌}
use mathlib.Core.Path.{◌≡◌, sym, ap, ◌∙◌}
use mathlib.Core.List.{List, [], ◌∷◌}
use native.Mathlib.Omega.{arith}
use native.Mathlib.Numerals.{add-one}
use lib.ListN.{length, get_or, set, take, length-take}
use lib.Seq.{sets, take-suc}
use Rattle.general.proofs.Stores.{sets-append}

module _ {A : Type 0} where
  pub step : (xs l : List A) (at i : ℕ) (d : A) → i < length xs
      → set (sets l at (take i xs)) (at + i) (get_or xs i d) ≡ sets l at (take (i + 1) xs)
  step xs l at i d h =
      let n : i ≡ length (take i xs) = omega (arith, length-take i xs) in
      ap (λ (k : ℕ). set (sets l at (take i xs)) (at + k) (get_or xs i d)) n
      ∙ sets-append (take i xs) (get_or xs i d ∷ []) l at
      ∙ ap (sets l at) (sym (ap (λ (k : ℕ). take k xs) (add-one i) ∙ take-suc xs i d h))
