-- The bits of a value are its mantissa's magnitude moved up by one shift, the rest of the power added to the exponent's field.
-- Once over the shift t: subnormal results take the whole power for it, normal ones what brings the leading one to bit 52.
use Prim.Native.Nat.{ℕ, ◌+◌, ◌-◌, ◌*◌, ◌/◌, ◌^◌, ◌<◌, ◌≤◌}
use mathlib.Core.Path.{◌≡◌, sym, ap, subst, ◌∙◌}
use mathlib.Core.Logic.{◌⊎◌, inl, inr}
use mathlib.Core.Bool.{Bool}
use native.Mathlib.Omega.{arith}
use native.Mathlib.Nat.{le_trans, le_of_eq, lt_of_not-le, not-le_of_lt, mul_assoc, mul_right_comm, mul-div_cancel, mul-le-mul_right, eq_of_mul-eq-mul_right}
use lib.Dec.{T}
use lib.Pow.{pow-add, pow_mono, shl_lt, shl-shr}
use lib.Ieee.{Float, nan, inf, fin, binary64, up, down, minus, size, fits, to_bits, of_bits}
use lib.Ieee.Bits.{of_bits-to_bits}
use lib.Ieee.Digits.{minus_val, size-le, size-lt}
use lib.Ieee.Exact.{HasValue}
use lib.Ieee.Fits.{down_pos}
use Rattle.float40.specs.Private.{sign_bit}

-- the bits of a float that is n * 2 ^ (j - 1074): they are made of n * 2 ^ j, the number of smallest values that it is
written : (v : Float) (s : Bool) (n j : ℕ) → HasValue v s (n * up (minus j 1074)) (down (minus j 1074))
    → to_bits binary64 v ≡ sign_bit s + (size (n * 2 ^ j) - 53) * 2 ^ 52 + n * 2 ^ j / 2 ^ (size (n * 2 ^ j) - 53)
unfolding to_bits
written nan s n j h = absurd h
written (inf t) s n j h = absurd h
written (fin t a e) s n j h =
    let k = minus j 1074 in
    let whole : a * up e * 2 ^ 1074 ≡ n * 2 ^ j * down e =
    eq_of_mul-eq-mul_right (down k) (down_pos k) (a * up e * 2 ^ 1074) (n * 2 ^ j * down e)
    (mul_right_comm (a * up e) (2 ^ 1074) (down k) ∙ ap (λ (x : ℕ). x * 2 ^ 1074) h.1
    ∙ mul_right_comm (n * up k) (down e) (2 ^ 1074) ∙ ap (λ (x : ℕ). x * down e) (minus_val n j 1074)
    ∙ mul_right_comm (n * 2 ^ j) (down k) (down e)) in
    let count : a * up e * 2 ^ 1074 / down e ≡ n * 2 ^ j = ap (λ (x : ℕ). x / down e) whole ∙ mul-div_cancel (n * 2 ^ j) (down_pos e) in
    ap (λ (x : ℕ). sign_bit t + (size x - 53) * 2 ^ 52 + x / 2 ^ (size x - 53)) count
    ∙ ap (λ (b : Bool). sign_bit b + (size (n * 2 ^ j) - 53) * 2 ^ 52 + n * 2 ^ j / 2 ^ (size (n * 2 ^ j) - 53)) h.0

-- a shift in two
pub apart : (n j t : ℕ) → t ≤ j → n * 2 ^ j ≡ n * 2 ^ t * 2 ^ (j - t)
apart n j t h =
    let e : j ≡ t + (j - t) = omega arith in
    ap (λ (x : ℕ). n * 2 ^ x) e ∙ ap (λ (x : ℕ). n * x) (pow-add 2 t (j - t)) ∙ sym (mul_assoc n (2 ^ t) (2 ^ (j - t)))

-- a shift t of at most the power j that leaves at most 53 digits, and all 53 where it is not the whole power
module _ (n j t : ℕ) (within : t ≤ j) (short : n * 2 ^ t < 2 ^ 53) (full : (t ≡ j) ⊎ (2 ^ 52 ≤ n * 2 ^ t)) where
  most : size (n * 2 ^ j) ≤ 53 + (j - t)
  most = size-le (n * 2 ^ j) (53 + (j - t)) (subst (λ (x : ℕ). x < 2 ^ (53 + (j - t))) (sym (apart n j t within)) (shl_lt 53 (j - t) short))

  least : 2 ^ 52 ≤ n * 2 ^ t → 52 + (j - t) < size (n * 2 ^ j)
  least h =
      lt_of_not-le (λ g.
      not-le_of_lt (size-lt (n * 2 ^ j))
      (le_trans (pow_mono g)
      (le_trans (le_of_eq (pow-add 2 52 (j - t))) (le_trans (mul-le-mul_right (2 ^ (j - t)) h) (le_of_eq (sym (apart n j t within)))))))

  dropped : size (n * 2 ^ j) - 53 ≡ j - t
  dropped = elim full [
    | inl e ↦ omega (arith, most, e)
    | inr h ↦ omega (arith, most, least h)
  ]

  -- the law: these bits are that float's
  pub placed : (v : Float) (s : Bool) → T (fits binary64 v) → HasValue v s (n * up (minus j 1074)) (down (minus j 1074))
      → of_bits binary64 (sign_bit s + (j - t) * 2 ^ 52 + n * 2 ^ t) ≡ v
  placed v s held has =
      let kept : n * 2 ^ j / 2 ^ (j - t) ≡ n * 2 ^ t = ap (λ (x : ℕ). x / 2 ^ (j - t)) (apart n j t within) ∙ shl-shr (n * 2 ^ t) (j - t) in
      let bits : to_bits binary64 v ≡ sign_bit s + (j - t) * 2 ^ 52 + n * 2 ^ t =
      written v s n j has
      ∙ ap (λ (x : ℕ). sign_bit s + x * 2 ^ 52 + n * 2 ^ j / 2 ^ x) dropped
      ∙ ap (λ (x : ℕ). sign_bit s + (j - t) * 2 ^ 52 + x) kept in
      ap (of_bits binary64) (sym bits) ∙ of_bits-to_bits binary64 v held
