-- Stores: two runs, one behind the other, are one run; a front that is right is right with one more.
-- Over the type of what is stored.
use Prim.Native.Nat.{ℕ, suc, ◌+◌, ◌<◌}
use mathlib.Core.Path.{◌≡◌}
use mathlib.Core.List.{List, [], ◌∷◌, ◌++◌}
use native.Mathlib.Nat.{add-zero, add-suc, suc-add}
use lib.ListN.{length, get_or, set}
use lib.Seq.{sets}
use Rattle.std.proofs.lemmas.List.Edits.{fill_by_more}

pub sets-append : {A : Type 0} (a b l : List A) (i : ℕ) → sets (sets l i a) (i + length a) b ≡ sets l i (a ++ b)
sets-append [] b l i = rw add-zero
sets-append (x ∷ a) b l i = rw (add-suc, ← suc-add) (sets-append a b (set l i x) (suc i))

-- the first k values of a list are those of f, and so is the one that is stored behind them
pub front-more : {A : Type 0} (f : ℕ → A) (d : A) (l : List A) (k : ℕ) {x : A} → k < length l → x ≡ f k → ((j : ℕ) → j < k → get_or l j d ≡ f j)
    → (j : ℕ) → j < k + 1 → get_or (set l k x) j d ≡ f j
front-more f d l k {x} h e all = rw e (fill_by_more f l k d h all)
