-- A shown figure is the nearest tenth, halves away from zero, and no other whole number is.
-- Below zero all is as above it, with the sign turned.
use Prim.Native.Nat.{ℕ, zero, suc, ◌+◌, ◌-◌, ◌*◌, ◌≤◌}
use mathlib.Core.Path.{◌≡◌, refl, sym, ◌∙◌, ap}
use native.Mathlib.Omega.{arith}
use lib.IntN.{ℤ, pos, negsuc, neg_ℤ, nat_abs, neg_ℤ-neg_ℤ, neg_ℤ-+ℤ, ◌-ℤ◌, ◌*ℤ◌}
use borrow.Author.Tests.{lt-ltb, le-ltb}
use Rattle.general.proofs.Cases.{by-lt}
use Rattle.bay_log.specs.Log.{tenths, shown_of}
use Rattle.bay_log.specs.Nearest.{off_by, NearestTenth}

-- ---- the sign turned

abs_neg : (z : ℤ) → nat_abs (neg_ℤ z) ≡ nat_abs z
abs_neg (pos zero) = refl
abs_neg (pos (suc n)) = refl
abs_neg (negsuc n) = refl

times-neg : (x : ℤ) → pos 100 *ℤ neg_ℤ x ≡ neg_ℤ (pos 100 *ℤ x)
times-neg (pos zero) = refl
times-neg (pos (suc n)) = refl
times-neg (negsuc n) = sym (neg_ℤ-neg_ℤ (pos (100 * suc n)))

off-neg : (z x : ℤ) → off_by (neg_ℤ z) (neg_ℤ x) ≡ off_by z x
unfolding off_by
off-neg z x =
    ap (λ (y : ℤ). nat_abs (y -ℤ neg_ℤ z)) (times-neg x) ∙ ap nat_abs (sym (neg_ℤ-+ℤ (pos 100 *ℤ x) (neg_ℤ z))) ∙ abs_neg (pos 100 *ℤ x -ℤ z)

nearest-neg : (z x : ℤ) → NearestTenth z x → NearestTenth (neg_ℤ z) (neg_ℤ x)
nearest-neg z x h =
    record {
      near = rw (off-neg z x) h.near;
      away = rw (off-neg z x, times-neg x, abs_neg z, abs_neg (pos 100 *ℤ x)) h.away;
    }

-- ---- from zero on; x is on the same side, or on the other

gap : (m n : ℕ) → nat_abs (pos m -ℤ pos n) ≡ m - n + (n - m)
gap m zero = omega arith
gap m (suc n) =
    by-lt m (suc n) (λ h. simp (lt-ltb m (suc n) h) (omega arith)) (λ h. simp (le-ltb m (suc n) h) (omega arith))

off-same : (a b : ℕ) → off_by (pos a) (pos b) ≡ 100 * b - a + (a - 100 * b)
unfolding off_by
off-same a b = gap (100 * b) a

off-other : (a b : ℕ) → off_by (pos a) (negsuc b) ≡ 100 * suc b + a
unfolding off_by
off-other a b = ap nat_abs (sym (neg_ℤ-+ℤ (pos (100 * suc b)) (pos a))) ∙ abs_neg (pos (100 * suc b + a))

shown-above : (a : ℕ) → NearestTenth (pos a) (pos (tenths a))
unfolding tenths
shown-above a = let e = off-same a (tenths a) in record { near = rw e (omega arith); away = rw e (λ h. omega arith) }

only_above : (a : ℕ) (x : ℤ) → NearestTenth (pos a) x → x ≡ pos (tenths a)
unfolding tenths
only_above a (pos b) h =
    let e = off-same a b in
    by-lt (off_by (pos a) (pos b)) 50 (λ l. ap pos (omega arith))
    (λ l. let half : 50 ≡ off_by (pos a) (pos b) = omega (arith, h.near) in
    let far = h.away (sym half) in
    ap pos (omega arith))
only_above a (negsuc b) h = absurd (let q : ⊥ = omega (arith, off-other a b, h.near) in q)

none_above : (a : ℕ) (x : ℤ) → off_by (pos a) (pos (tenths a)) ≤ off_by (pos a) x
unfolding tenths
none_above a (pos b) = rw (off-same a (tenths a), off-same a b) (omega arith)
none_above a (negsuc b) = rw (off-same a (tenths a), off-other a b) (omega arith)

-- ---- the figure shown

pub shown-nearest : (z : ℤ) → NearestTenth z (shown_of z)
unfolding shown_of
shown-nearest (pos a) = shown-above a
shown-nearest (negsuc a) = nearest-neg (pos (suc a)) (pos (tenths (suc a))) (shown-above (suc a))

-- no other whole number has both properties
pub only-shown : (z x : ℤ) → NearestTenth z x → x ≡ shown_of z
unfolding shown_of
only-shown (pos a) x h = only_above a x h
only-shown (negsuc a) x h = sym (neg_ℤ-neg_ℤ x) ∙ ap neg_ℤ (only_above (suc a) (neg_ℤ x) (nearest-neg (negsuc a) x h))

-- and none is nearer
pub none-nearer : (z x : ℤ) → off_by z (shown_of z) ≤ off_by z x
unfolding shown_of
none-nearer (pos a) x = none_above a x
none-nearer (negsuc a) x = rw (off-neg (pos (suc a)) (pos (tenths (suc a))), sym (off-neg (negsuc a) x)) (none_above (suc a) (neg_ℤ x))
