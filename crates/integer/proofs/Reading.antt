-- Reading at a place, by cases: it fits, or it is refused.
-- Once over kind, width and value, for a test that passed or failed and for a length.
use Prim.Native.Nat.{ℕ, ◌+◌, ◌<◌, ◌≤◌}
use mathlib.Core.Path.{◌≡◌, ap}
use mathlib.Core.Bool.{Bool, true, false, cond}
use mathlib.Core.List.{List, [], ◌∷◌}
use borrow.Author.Tests.{le-leb, lt-leb}
use lib.Dec.{leb}
use lib.ListN.{length}
use Rattle.error.specs.Refusal.{yes, no}
use Rattle.integer.specs.Fields.{reading, need_at}

module _ {A : Type 0} (kind k : ℕ) (value : List ℕ → ℕ → A) (s : List ℕ) (at : ℕ) where
  pub reads-where : leb (at + k) (length s) ≡ true → reading kind k value s at ≡ yes (value s at)
  unfolding reading
  reads-where h = ap (λ (b : Bool). cond b (yes (value s at)) (no 7 (kind ∷ need_at k at ∷ length s ∷ []))) h

  pub refuses-where : leb (at + k) (length s) ≡ false → reading kind k value s at ≡ no 7 (kind ∷ need_at k at ∷ length s ∷ [])
  unfolding reading
  refuses-where h = ap (λ (b : Bool). cond b (yes (value s at)) (no 7 (kind ∷ need_at k at ∷ length s ∷ []))) h

  pub reads : at + k ≤ length s → reading kind k value s at ≡ yes (value s at)
  reads h = reads-where (le-leb (at + k) (length s) h)

  pub refuses : length s < at + k → reading kind k value s at ≡ no 7 (kind ∷ need_at k at ∷ length s ∷ [])
  refuses h = refuses-where (lt-leb (at + k) (length s) h)
