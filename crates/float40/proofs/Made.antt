-- What `value_bits` makes of an e and an m that is not 0 is their value's bits: normal, subnormal, infinite, or a zero below the powers.
-- n is m's magnitude and z its count of leading zeros; the field is e + 1030 - z, and e + 1051 counts from the power -1074.
use Prim.Native.Nat.{ℕ, suc, ◌+◌, ◌-◌, ◌*◌, ◌^◌, ◌<◌, ◌≤◌}
use mathlib.Core.Path.{◌≡◌, refl, sym, ap, subst, ◌∙◌}
use mathlib.Core.Logic.{◌⊎◌, inl, inr}
use mathlib.Core.Bool.{Bool, true, false, false≢true}
use native.Mathlib.Omega.{arith}
use native.Mathlib.Nat.{le_trans, le_of_eq, lt_of_lt_of_le, lt_of_not-le, not-le_of_lt, one-mul, mul_right_comm, mul-le-mul_right}
use native.Mathlib.Nat.{mul-lt-mul_of_pos_right, lt_of_mul-lt-mul_right, le_of_mul-le-mul_right}
use lib.Dec.{lit≤}
use lib.Pow.{pow-add, pow_pos, pow_mono, shl_lt}
use lib.IntN.{ℤ, pos, negsuc, nat_abs, ◌+ℤ◌, ◌-ℤ◌}
use lib.Signed.{lt_z}
use lib.Count.{count_leading_zeros, leading_le}
use lib.Ieee.{inf, fin, binary64, up, down, minus, of_bits, of_fields, odd}
use lib.Ieee.Digits.{minus_val}
use lib.Ieee.Exact.{HasValue}
use lib.Ieee.Fits.{down_pos}
use borrow.Author.Tests.{lt-ltb, le-ltb, ltb-true}
use Rattle.general.proofs.Cases.{by-lt}
use Rattle.float40.specs.Float40.{negative, value40}
use Rattle.float40.specs.Private.{sign_bit, to_lead}
use Rattle.float40.proofs.Signed.{minus-le, minus-lt, less, plus, plus-back, both-more, minus-below}
use Rattle.float40.proofs.Value.{value-fits, reads-below, reads-above, reads_over, reads-exact}
use Rattle.float40.proofs.Leading.{at-52, under-52, from-52}
use Rattle.float40.proofs.Placed.{apart, placed}

-- ---- 2 ^ (j - 1074) against 2 ^ 1024, in units of 2 ^ -1074

module _ (n j : ℕ) where
  units : n * up (minus j 1074) * 2 ^ 1074 ≡ n * 2 ^ j * down (minus j 1074)
  units = minus_val n j 1074

  limit : 2 ^ 1024 * down (minus j 1074) * 2 ^ 1074 ≡ 2 ^ 2098 * down (minus j 1074)
  limit = mul_right_comm (2 ^ 1024) (down (minus j 1074)) (2 ^ 1074)

  finite : n * 2 ^ j < 2 ^ 2098 → n * up (minus j 1074) < 2 ^ 1024 * down (minus j 1074)
  finite h = lt_of_mul-lt-mul_right (2 ^ 1074) (rw (units, limit) (mul-lt-mul_of_pos_right h (down_pos (minus j 1074))))

  infinite : 2 ^ 2098 ≤ n * 2 ^ j → 2 ^ 1024 * down (minus j 1074) ≤ n * up (minus j 1074)
  infinite h = le_of_mul-le-mul_right (rw (units, limit) (mul-le-mul_right (down (minus j 1074)) h)) (pow_pos 1074)

not_low : (j : ℕ) → lt_z (minus j 1074) (negsuc 1073) ≡ false
not_low j =
    by-lt j 1074 (λ h. ap (λ (z : ℤ). lt_z z (negsuc 1073)) (minus-lt j 1074 h) ∙ le-ltb 1073 (1074 - suc j) (omega arith))
    (λ h. ap (λ (z : ℤ). lt_z z (negsuc 1073)) (minus-le j 1074 h))

not-high : (j : ℕ) → j < 2098 → lt_z (pos 1023) (minus j 1074) ≡ false
not-high j g =
    by-lt j 1074 (λ h. ap (lt_z (pos 1023)) (minus-lt j 1074 h))
    (λ h. ap (lt_z (pos 1023)) (minus-le j 1074 h) ∙ le-ltb 1023 (j - 1074) (omega arith))

high : (j : ℕ) → 2098 ≤ j → lt_z (pos 1023) (minus j 1074) ≡ true
high j g = ap (lt_z (pos 1023)) (minus-le j 1074 (omega arith)) ∙ lt-ltb 1023 (j - 1074) (omega arith)

low : (e : ℤ) → lt_z e (negsuc 1050) ≡ true → lt_z (e -ℤ pos 23) (negsuc 1073) ≡ true
low (pos n) h = absurd (false≢true h)
low (negsuc n) h = lt-ltb 1073 (suc (n + 22)) (omega (arith, ltb-true 1050 n h))

-- ---- signs

pub sign_le : (s : Bool) → sign_bit s ≤ 2 ^ 63
sign_le true = lit≤ tt
sign_le false = lit≤ tt

pub sign_zero : (s : Bool) → of_bits binary64 (sign_bit s) ≡ fin s 0 (pos 0)
unfolding of_bits of_fields odd
sign_zero true = refl
sign_zero false = refl

pub sign-inf : (s : Bool) → of_bits binary64 (sign_bit s + 0x7FF0000000000000) ≡ inf s
unfolding of_bits of_fields odd
sign-inf true = refl
sign-inf false = refl

-- ---- the four cases

module _ (e m : ℤ) (some : 0 < nat_abs m) (wide : nat_abs m < 2 ^ 32) where
  whole : nat_abs m < 2 ^ 53
  whole = omega arith

  -- the power that a field f stands for
  of_field : (f : ℕ) → e +ℤ pos (1030 - count_leading_zeros 32 (nat_abs m)) ≡ pos f → e -ℤ pos 23 ≡ minus (f + to_lead (nat_abs m)) 1074
  of_field f h =
      let z = count_leading_zeros 32 (nat_abs m) in
      let c : 1030 - z + 23 + (21 + z) ≡ 1074 = omega (arith, leading_le 32 (nat_abs m)) in
      ap (λ (y : ℤ). y -ℤ pos 23) (plus-back e (1030 - z) f h) ∙ less f (1030 - z) 22 ∙ both-more f (1030 - z + 23) (21 + z)
      ∙ ap (minus (f + (21 + z))) c

  -- whatever the shift
  exact : (j t : ℕ) → e -ℤ pos 23 ≡ minus j 1074 → t ≤ j → j - t < 2046 → nat_abs m * 2 ^ t < 2 ^ 53 → (t ≡ j) ⊎ (2 ^ 52 ≤ nat_abs m * 2 ^ t)
      → of_bits binary64 (sign_bit (negative m) + (j - t) * 2 ^ 52 + nat_abs m * 2 ^ t) ≡ value40 e m
  exact j t at within small short full =
      let n = nat_abs m in
      let moved : t < 53 =
      lt_of_not-le (λ g. not-le_of_lt short (le_trans (pow_mono g) (le_trans (le_of_eq (sym (one-mul (2 ^ t)))) (mul-le-mul_right (2 ^ t) some)))) in
      let room : n * 2 ^ j < 2 ^ 2098 =
      lt_of_lt_of_le (subst (λ (x : ℕ). x < 2 ^ (53 + (j - t))) (sym (apart n j t within)) (shl_lt 53 (j - t) short))
      (pow_mono {i = 53 + (j - t)} {j = 2098} (omega arith)) in
      placed n j t within short full (value40 e m) (negative m) (value-fits e m)
      (subst
      (λ (k : ℤ). lt_z k (negsuc 1073) ≡ false → lt_z (pos 1023) k ≡ false → n * up k < 2 ^ 1024 * down k
      → HasValue (value40 e m) (negative m) (n * up k) (down k))
      at (reads-exact e m some whole) (not_low j) (not-high j (omega arith)) (finite n j room))

  pub normal : (f : ℕ) → f < 2046 → e +ℤ pos (1030 - count_leading_zeros 32 (nat_abs m)) ≡ pos f
      → of_bits binary64 (sign_bit (negative m) + f * 2 ^ 52 + nat_abs m * 2 ^ to_lead (nat_abs m)) ≡ value40 e m
  normal f g h =
      let t = to_lead (nat_abs m) in
      let d : f + t - t ≡ f = omega arith in
      subst (λ (x : ℕ). of_bits binary64 (sign_bit (negative m) + x * 2 ^ 52 + nat_abs m * 2 ^ t) ≡ value40 e m) d
      (exact (f + t) t (of_field f h) (omega arith) (omega arith) (at-52 (nat_abs m) some wide) (inr (from-52 (nat_abs m) some wide)))

  pub subnormal : (j : ℕ) → j < to_lead (nat_abs m) → e +ℤ pos 1051 ≡ pos j
      → of_bits binary64 (sign_bit (negative m) + nat_abs m * 2 ^ j) ≡ value40 e m
  subnormal j g h =
      let n = nat_abs m in
      let s = sign_bit (negative m) in
      let z : s + (j - j) * 2 ^ 52 + n * 2 ^ j ≡ s + n * 2 ^ j = omega arith in
      ap (of_bits binary64) (sym z)
      ∙ exact j j (ap (λ (y : ℤ). y -ℤ pos 23) (plus-back e 1051 j h) ∙ less j 1051 22) (omega arith) (omega arith) (under-52 n some wide j g) (inl refl)

  pub over : (f : ℕ) → 2046 ≤ f → e +ℤ pos (1030 - count_leading_zeros 32 (nat_abs m)) ≡ pos f → value40 e m ≡ inf (negative m)
  over f g h =
      let n = nat_abs m in
      let t = to_lead n in
      let j = f + t in
      let d : j - t ≡ f = omega arith in
      let at : e -ℤ pos 23 ≡ minus j 1074 = of_field f h in
      let much : 2 ^ 2098 ≤ n * 2 ^ j =
      le_trans (pow_mono {i = 2098} {j = 52 + (j - t)} (omega arith))
      (le_trans (le_of_eq (pow-add 2 52 (j - t)))
      (le_trans (mul-le-mul_right (2 ^ (j - t)) (from-52 n some wide)) (le_of_eq (sym (apart n j t (omega arith)))))) in
      by-lt j 2098
      (λ k. subst (λ (y : ℤ). lt_z y (negsuc 1073) ≡ false → lt_z (pos 1023) y ≡ false → 2 ^ 1024 * down y ≤ n * up y → value40 e m ≡ inf (negative m))
      at (reads_over e m some whole) (not_low j) (not-high j k) (infinite n j much))
      (λ k. reads-above e m some whole (ap (lt_z (pos 1023)) at ∙ high j k))

  pub below : lt_z e (negsuc 1050) ≡ true → value40 e m ≡ fin (negative m) 0 (pos 0)
  below h = reads-below e m some whole (low e h)

  -- where the field is negative, the power is below the shift
  pub short-of : (j : ℕ) → e +ℤ pos 1051 ≡ pos j → lt_z (e +ℤ pos (1030 - count_leading_zeros 32 (nat_abs m))) (pos 0) ≡ true → j < to_lead (nat_abs m)
  short-of j h l =
      let c = 1030 - count_leading_zeros 32 (nat_abs m) in
      let at : e +ℤ pos c ≡ minus (j + c) 1051 = ap (λ (y : ℤ). y +ℤ pos c) (plus-back e 1051 j h) ∙ plus j 1051 c in
      omega (arith, minus-below (j + c) 1051 (ap (λ (y : ℤ). lt_z y (pos 0)) (sym at) ∙ l), leading_le 32 (nat_abs m))
