-- A list that is filled from the front, one value a turn or three, is a row in the end.
-- `Filled` is how far it has come; what stands behind that is not asked.
use Prim.Native.Nat.{ℕ, zero, suc, ◌+◌, ◌<◌}
use mathlib.Core.Path.{◌≡◌, refl, sym, ◌∙◌, ap}
use mathlib.Core.List.{List}
use native.Mathlib.Omega.{arith}
use lib.ListN.{length, get_or, set, replicate, length-set, length-replicate}
use lib.Seq.{ext_get_or}
use Rattle.general.proofs.Stores.{front-more}
use Rattle.layout.specs.Layout.{row}

row-length : {A : Type 0} (k : ℕ) (f : ℕ → A) → length (row k f) ≡ k
row-length zero f = refl
row-length (suc k) f = ap suc (row-length k (λ j. f (suc j)))

pub row_at : {A : Type 0} (k : ℕ) (f : ℕ → A) (d : A) (j : ℕ) → j < k → get_or (row k f) j d ≡ f j
row_at zero f d j h = absurd (let q : ⊥ = omega arith in q)
row_at (suc k) f d zero h = refl
row_at (suc k) f d (suc j) h = row_at k (λ i. f (suc i)) d j (omega arith)

module _ {A : Type 0} (f : ℕ → A) (d : A) where
  -- the first n of k places hold f's values
  pub record Filled (k n : ℕ) (xs : List A) : Type 0 where
    pub long : length xs ≡ k
    pub front : (j : ℕ) → j < n → get_or xs j d ≡ f j

  pub filled_none : (k : ℕ) (x : A) → Filled k 0 (replicate k x)
  filled_none k x = record {
    long = length-replicate k x;
    front = λ j h. absurd (let q : ⊥ = omega arith in q);
  }

  pub filled_more : {k n : ℕ} {xs : List A} {v : A} → Filled k n xs → n < k → v ≡ f n → Filled k (n + 1) (set xs n v)
  filled_more {k} {n} {xs} {v} w h e = record {
    long = length-set xs n v ∙ w.long;
    front = front-more f d xs n (rw w.long h) e w.front;
  }

  pub filled-three : {k n : ℕ} {xs : List A} {u v w : A} → Filled k n xs → n + 2 < k → u ≡ f n → v ≡ f (n + 1) → w ≡ f (n + 2)
      → Filled k (n + 3) (set (set (set xs n u) (n + 1) v) (n + 2) w)
  filled-three {k} {n} {xs} {u} {v} {w} had h p q r =
      let two : n + 1 + 1 ≡ n + 2 = omega arith in
      let three : n + 2 + 1 ≡ n + 3 = omega arith in
      let more : Filled k (n + 1 + 1) (set (set xs n u) (n + 1) v) = filled_more (filled_more had (omega arith) p) (omega arith) q in
      let again : Filled k (n + 2) (set (set xs n u) (n + 1) v) = rw two at more in
      let all : Filled k (n + 2 + 1) (set (set (set xs n u) (n + 1) v) (n + 2) w) = filled_more again h r in
      rw three at all

pub filled_is : {A : Type 0} (f : ℕ → A) (d : A) {k : ℕ} {xs : List A} → Filled f d k k xs → xs ≡ row k f
filled_is f d {k} {xs} w =
    ext_get_or d xs (row k f) (w.long ∙ sym (row-length k f))
    (λ j q.
    let h : j < k = rw w.long at q in
    w.front j h ∙ sym (row_at k f d j h))
