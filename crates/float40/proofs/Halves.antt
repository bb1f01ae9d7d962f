-- An INT24's 24 bits as sign and magnitude: bit 23 is the sign, and where it is set the magnitude is what is missing to 2 ^ 24.
-- By the two halves of two's complement.
use Prim.Native.Nat.{ℕ, suc, ◌-◌, ◌*◌, ◌/◌, ◌%◌, ◌^◌, ◌<◌, ◌≤◌}
use mathlib.Core.Path.{◌≡◌, sym, ap, ◌∙◌}
use native.Mathlib.Omega.{arith}
use lib.IntN.{ℤ, pos, neg_ℤ, nat_abs}
use lib.Bits.{bit_and, and_high}
use Rattle.general.proofs.Cases.{by-lt}
use Rattle.integer.specs.Fields.{signed}
use Rattle.integer.proofs.Complement.{low-is, high_is}
use Rattle.float40.specs.Float40.{negative}
use Rattle.float40.specs.Private.{sign_bit}

module _ (n : ℕ) (short : n < 2 ^ 24) where
  masked : bit_and n (2 ^ 23) ≡ n / 2 ^ 23 % 2 * 2 ^ 23
  masked = and_high n 1 23

  pub lower : bit_and n (2 ^ 23) ≡ 0 → pos n ≡ signed 24 n
  lower h = sym (low-is 24 n (omega (arith, masked)))

  pub upper : (bit_and n (2 ^ 23) ≡ 0 → ⊥) → neg_ℤ (pos (2 ^ 24 - n)) ≡ signed 24 n
  upper h =
      let half : 2 ^ 23 ≤ n = omega (arith, masked) in
      let e : 2 ^ 24 - n ≡ suc (2 ^ 24 - 1 - n) = omega arith in
      ap (λ (k : ℕ). neg_ℤ (pos k)) e ∙ sym (high_is 24 n half short)

  -- the same apart: the magnitude of either half, and the sign's bit

  pub lower-size : n < 2 ^ 23 → n ≡ nat_abs (signed 24 n)
  lower-size h = sym (ap nat_abs (low-is 24 n h))

  pub upper-size : 2 ^ 23 ≤ n → 2 ^ 24 - n ≡ nat_abs (signed 24 n)
  upper-size h = let e : 2 ^ 24 - n ≡ suc (2 ^ 24 - 1 - n) = omega arith in e ∙ sym (ap nat_abs (high_is 24 n h short))

  pub sign_of : bit_and n (2 ^ 23) * 2 ^ 40 % 2 ^ 64 ≡ sign_bit (negative (signed 24 n))
  sign_of =
      by-lt n (2 ^ 23)
      (λ h. let e : bit_and n (2 ^ 23) * 2 ^ 40 % 2 ^ 64 ≡ 0 = omega (arith, masked) in
      e ∙ sym (ap (λ (z : ℤ). sign_bit (negative z)) (low-is 24 n h)))
      (λ h. let e : bit_and n (2 ^ 23) * 2 ^ 40 % 2 ^ 64 ≡ 2 ^ 63 = omega (arith, masked) in
      e ∙ sym (ap (λ (z : ℤ). sign_bit (negative z)) (high_is 24 n h short)))
