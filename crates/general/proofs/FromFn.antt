-- An array that `from_fn` made has at each place what the function answers there, where a call changes nothing that it captured.
-- Over the type of what is answered.
use Prim.Native.Nat.{ℕ, zero, suc, ◌+◌, ◌<◌, ◌≤◌}
use mathlib.Core.Path.{◌≡◌, subst, ◌∙◌}
use mathlib.Core.List.{List}
use native.Mathlib.Omega.{arith}
use denote.Param.Members.{Mut, Called}
use Rattle.std.specs.Array.{IsFromFnResultFrom, IsFromFnResult}
use Rattle.std.specs.List.{slice_index_or}
use Rattle.general.proofs.Cases.{by-eq}

module _ {F B : Type 0} (g : Mut F (ℕ × Unit {0}) B) (f : F) (value : ℕ → B)
    (same : (x : ℕ) (b : B) (f' : F) → Called g f (x, tt) b f' → (b ≡ value x) × (f' ≡ f)) where
  from-each : (ys : List B) (i n : ℕ) → IsFromFnResultFrom g f ys i n → (d : B) (k : ℕ) → i ≤ k → k < i + n → slice_index_or ys k d ≡ value k
  from-each ys i zero r d k l h = absurd (omega arith)
  from-each ys i (suc n) (q, y, at, call, rest) d k l h =
      let w = same i y q call in
      by-eq i k (λ e. subst (λ (j : ℕ). slice_index_or ys j d ≡ value j) e (at.1 d ∙ w.0))
      (λ other. from-each ys (i + 1) n (subst (λ (p : F). IsFromFnResultFrom g p ys (i + 1) n) w.1 rest) d k (omega arith) (omega arith))

  pub from-fn-same : (ys : List B) (n : ℕ) → IsFromFnResult g f ys n → (d : B) (k : ℕ) → k < n → slice_index_or ys k d ≡ value k
  from-fn-same ys n r d k h = from-each ys 0 n r.each d k (omega arith) (omega arith)
