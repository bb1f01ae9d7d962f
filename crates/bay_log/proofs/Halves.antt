-- A number less a part of it is no farther from zero than the number, and on the same side.
-- Half tenths less half of them are the nearest tenth, and the tenths that the log once cut are within one of that.
use Prim.Native.Nat.{ℕ, zero, suc, ◌+◌, ◌-◌, ◌/◌, ◌%◌, ◌≤◌}
use mathlib.Core.Path.{◌≡◌, refl, sym, ◌∙◌, ap}
use native.Mathlib.Nat.{div-le_self, zero-div}
use native.Mathlib.Omega.{arith}
use lib.IntN.{ℤ, pos, negsuc, neg_ℤ, neg_ℤ-+ℤ, ◌+ℤ◌, ◌-ℤ◌}
use lib.Signed.{mag, quot_z, rem_z}
use borrow.Author.Tests.{le-ltb}
use Rattle.bay_log.specs.Log.{tenths, shown_of}

-- z less a d-th of it, that being cut toward zero
unfoldable pub less_part : ℤ → ℕ → ℤ
less_part z d = z -ℤ quot_z z (pos d)

-- ---- from zero on, and below it

difference : (m n : ℕ) → n ≤ m → pos m -ℤ pos n ≡ pos (m - n)
difference m zero h = let e : m + 0 ≡ m - 0 = omega arith in ap pos e
difference m (suc n) h = simp (le-ltb m (suc n) h)

part-neg : (n d : ℕ) → quot_z (neg_ℤ (pos n)) (pos d) ≡ neg_ℤ (pos (n / d))
part-neg zero d = ap pos (zero-div d) ∙ ap (λ (k : ℕ). neg_ℤ (pos k)) (sym (zero-div d))
part-neg (suc n) d = refl

less-pos : (n d : ℕ) → less_part (pos n) d ≡ pos (n - n / d)
unfolding less_part
less-pos n d = difference n (n / d) (div-le_self n d)

less-neg : (n d : ℕ) → less_part (neg_ℤ (pos n)) d ≡ neg_ℤ (pos (n - n / d))
unfolding less_part
less-neg n d =
    ap (λ (x : ℤ). neg_ℤ (pos n) -ℤ x) (part-neg n d) ∙ sym (neg_ℤ-+ℤ (pos n) (neg_ℤ (pos (n / d)))) ∙ ap neg_ℤ (less-pos n d)

-- ---- the range

neg-within : (n a : ℕ) → n ≤ suc a → mag (neg_ℤ (pos n)) ≤ a
neg-within zero a h = omega arith
neg-within (suc n) a h = omega arith

pub part-within : (z : ℤ) (d : ℕ) → mag (quot_z z (pos d)) ≤ mag z
part-within (pos a) d = div-le_self a d
part-within (negsuc a) d = neg-within (suc a / d) a (div-le_self (suc a) d)

pub less-within : (z : ℤ) (d : ℕ) → mag (less_part z d) ≤ mag z
less-within (pos a) d = rw (less-pos a d) (omega arith)
less-within (negsuc a) d = rw (less-neg (suc a) d) (neg-within (suc a - suc a / d) a (omega arith))

-- ---- the figure shown

-- of an odd number of halves the greater part stays
greater-half : (n : ℕ) → n / 50 - n / 50 / 2 ≡ tenths n
unfolding tenths
greater-half n = omega arith

pub halved : (z : ℤ) → less_part (quot_z z (pos 50)) 2 ≡ shown_of z
unfolding shown_of
halved (pos n) = less-pos (n / 50) 2 ∙ ap pos (greater-half n)
halved (negsuc n) = less-neg (suc n / 50) 2 ∙ ap (λ (k : ℕ). neg_ℤ (pos k)) (greater-half (suc n))

-- it is what the log showed before request 5, the tenths cut toward zero, and one more where 50 thousandths or more are left
one_more : (n : ℕ) → n / 100 + n % 100 / 50 ≡ tenths n
unfolding tenths
one_more n = omega arith

pub cut-before : (z : ℤ) → quot_z z (pos 100) +ℤ quot_z (rem_z z (pos 100)) (pos 50) ≡ shown_of z
unfolding shown_of
cut-before (pos n) = ap pos (one_more n)
cut-before (negsuc n) =
    ap (λ (x : ℤ). neg_ℤ (pos (suc n / 100)) +ℤ x) (part-neg (suc n % 100) 50)
    ∙ sym (neg_ℤ-+ℤ (pos (suc n / 100)) (pos (suc n % 100 / 50)))
    ∙ ap (λ (k : ℕ). neg_ℤ (pos k)) (one_more (suc n))
