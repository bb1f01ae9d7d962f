-- An array of which each element is one of a kind is the row of them, where the kind has one value.
-- So the default of an array is the row that a table of zeros reads.
use Rattle.std.proofs.Common.{◌≡◌, ℕ, zero, suc, ◌<◌, List, ◌∷◌, refl, sym, ◌∙◌, arith}
use lib.ListN.{get_or}
use Rattle.std.specs.Array.{AllOfLen}
use Rattle.layout.specs.Layout.{row}
use Rattle.layout.proofs.Spread.{spread}

module _ {A : Type 0} where
  row-same : (n : ℕ) (f g : ℕ → A) → ((k : ℕ) → k < n → f k ≡ g k) → row n f ≡ row n g
  row-same zero f g h = refl
  row-same (suc n) f g h =
      λ i. h 0 (omega arith) i ∷ row-same n (λ k. f (suc k)) (λ k. g (suc k)) (λ k l. h (suc k) (omega arith)) i

  pub alike : (P : A → Type 0) (xs : List A) (n : ℕ) (f : ℕ → A) → ((x : A) (k : ℕ) → P x → x ≡ f k) → AllOfLen P xs n → xs ≡ row n f
  alike P xs n f h all =
      sym (spread n xs (f 0) all.long)
      ∙ row-same n (λ k. get_or xs k (f 0)) f (λ k l. h (get_or xs k (f 0)) k (all.at k (f 0) l))
