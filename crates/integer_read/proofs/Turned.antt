-- What one reading of a field tells, with its value made another, is another reading of that field.
-- Once over kind, width and value: `checked` is for a plain field, `scaled` for one that is divided.
use Prim.Native.Nat.{ℕ, ◌+◌}
use mathlib.Core.Path.{◌≡◌, refl, sym, ap, ◌∙◌}
use mathlib.Core.Bool.{Bool, true, false, cond}
use mathlib.Core.List.{List, [], ◌∷◌}
use lib.Dec.{leb}
use lib.ListN.{length}
use lib.Ieee.{Float}
use lib.IntN.{ℤ}
use Rattle.error.specs.Refusal.{Told, yes, no, on_yes}
use Rattle.std.specs.Prelude.{Result}
use Rattle.error.specs.declared.WireError.{WireError}
use Rattle.error.specs.Result.{told}
use Rattle.integer.specs.Fields.{int_at, need_at, reading, scaled_by}

-- an answer r that tells one reading, found to be m: with f at its value it tells another reading of the same field
pub turned : {A B R : Type 0} (told : R → Told A) (kind k : ℕ) (value : List ℕ → ℕ → A) (other : List ℕ → ℕ → B) (s : List ℕ) (at : ℕ) (f : A → B)
    → f (value s at) ≡ other s at → {r m : R} → told r ≡ reading kind k value s at → r ≡ m → on_yes f (told m) ≡ reading kind k other s at
unfolding reading
turned told kind k value other s at f e p q = ap (λ r. on_yes f (told r)) (sym q) ∙ ap (on_yes f) p ∙ each (leb (at + k) (length s))
  where
    each : (b : Bool)
        → on_yes f (cond b (yes (value s at)) (no 7 (kind ∷ need_at k at ∷ length s ∷ []))) ≡ cond b (yes (other s at))
        (no 7 (kind ∷ need_at k at ∷ length s ∷ []))
    each true = ap yes e
    each false = refl

-- after `check_len`, the value
pub checked : {B : Type 0} (kind k : ℕ) (value : List ℕ → ℕ → B) (s : List ℕ) (at : ℕ) {r m : Result Unit WireError}
    → told r ≡ reading kind k (λ s at. tt) s at → r ≡ m → on_yes (λ u. value s at) (told m) ≡ reading kind k value s at
checked kind k value s at = turned told kind k (λ s at. tt) value s at (λ u. value s at) refl

-- after a reader of a signed field, its value scaled
pub scaled : {R : Type 0} (told : R → Told ℤ) (kind k : ℕ) (scale : Float) (s : List ℕ) (at : ℕ) {r m : R}
    → told r ≡ reading kind k (int_at k) s at → r ≡ m
    → on_yes (scaled_by scale) (told m) ≡ reading kind k (λ s at. scaled_by scale (int_at k s at)) s at
scaled told kind k scale s at =
    turned told kind k (int_at k) (λ s at. scaled_by scale (int_at k s at)) s at (scaled_by scale) refl
