-- What is written reads back, over the 64 bits b: a normal number as exactly m * 2 ^ (e - 23), a subnormal one with the leading one added,
-- an infinity or a NaN as an infinity, both zeros as +0.0; `told_back` says it through a buffer, `FloatBack` of an f64.
use Prim.Native.Nat.{ℕ, zero, suc, ◌+◌, ◌-◌, ◌*◌, ◌%◌, ◌^◌, ◌<◌, ◌≤◌}
use mathlib.Core.Path.{◌≡◌, refl, sym, ap, subst, ◌∙◌}
use mathlib.Core.Bool.{Bool, true, false}
use mathlib.Core.List.{List, [], ◌∷◌, ◌++◌}
use mathlib.Core.Logic.{inl}
use native.Mathlib.Omega.{arith}
use native.Mathlib.Nat.{lt_of_lt_of_le, lt_of_mul-lt-mul_right, mul_right_comm, mul-le-mul_right, mul-lt-mul_of_pos_right, mul-one}
use lib.Dec.{lit<, lit≤}
use lib.ListN.{length}
use lib.Pow.{pow_mono, shl_lt}
use lib.IntN.{ℤ, pos, negsuc, nat_abs, ◌-ℤ◌}
use lib.Signed.{lt_z}
use lib.Ieee.{nan, inf, minus, up, down, to_bits}
use lib.Ieee.Digits.{minus_val}
use lib.Ieee.Exact.{HasValue}
use lib.Ieee.Fits.{down_pos}
use borrow.Author.Tests.{le-ltb}
use Rattle.error.specs.Refusal.{yes}
use Rattle.general.proofs.Cases.{by-lt}
use Rattle.integer.specs.Fields.{int_at, reading}
use Rattle.integer.proofs.Reading.{reads}
use Rattle.integer_write.specs.Writing.{bytes_of, unsigned, int_bytes, written}
use Rattle.integer_write.proofs.Back.{int-back, int-kept, length-written}
use Rattle.float40.specs.Float40.{negative, value40, float40_at}
use Rattle.general.specs.Number.{zero_float}
use Rattle.float40.proofs.Signed.{minus-le, minus-lt, less}
use Rattle.float40.proofs.Value.{reads-zero, reads-exact, reads_over}
use Rattle.float40_write.specs.Writing.{sign_of, field_of, fraction_of, size_of, with_sign, exp40, man40, bytes40, bits64, read_back}
use Rattle.float40_write.proofs.Apart.{zero-parts, other-parts, keeps, size-bounds, abs-with, exp-fits, man-fits}
use Rattle.float40_write.proofs.Five.{fields}

-- ---- through a buffer: what is written there is read there

pub told_back : (b : ℕ) (s : List ℕ) (at : ℕ) → at + 5 ≤ length s → reading 7 5 float40_at (written (bytes40 b) s at) at ≡ yes (read_back b)
unfolding float40_at
told_back b s at h =
    let one = written (int_bytes 2 (exp40 b)) s at in
    let two = written (int_bytes 3 (man40 b)) one (at + 2) in
    let long : length one ≡ length s = length-written (int_bytes 2 (exp40 b)) s at in
    let all : length two ≡ length one = length-written (int_bytes 3 (man40 b)) one (at + 2) in
    let e : int_at 2 two at ≡ exp40 b =
    int-kept 2 (int_bytes 3 (man40 b)) one (at + 2) at (inl (omega arith)) ∙ int-back 2 (exp40 b) s at (lit< tt) (exp-fits b) (omega arith) in
    let m : int_at 3 two (at + 2) ≡ man40 b = int-back 3 (man40 b) one (at + 2) (lit< tt) (man-fits b) (omega arith) in
    ap (λ (l : List ℕ). reading 7 5 float40_at l at) (sym (fields b s at h))
    ∙ reads 7 5 float40_at two at (omega arith)
    ∙ ap yes (ap (λ (z : ℤ). value40 z (int_at 3 two (at + 2))) e ∙ ap (value40 (exp40 b)) m)

-- ---- the power e - 23 is within its range

at_least : (a b : ℕ) → b ≤ 1074 → lt_z (minus a b) (negsuc 1073) ≡ false
at_least a b h = by-lt a b (λ k. rw (minus-lt a b k) (le-ltb 1073 (b - suc a) (omega arith))) (λ k. rw (minus-le a b k))

at_most : (a b : ℕ) → a ≤ b + 1023 → lt_z (pos 1023) (minus a b) ≡ false
at_most a b h = by-lt a b (λ k. rw (minus-lt a b k)) (λ k. rw (minus-le a b k) (le-ltb 1023 (a - b) (omega arith)))

-- ---- any pattern but a zero's

sign-with : (s : Bool) (n : ℕ) → 0 < n → negative (with_sign s n) ≡ s
sign-with true zero h = absurd (let q : ⊥ = omega arith in q)
sign-with true (suc n) h = refl
sign-with false n h = refl

module _ (b : ℕ) (some : b % 2 ^ 63 ≡ 0 → ⊥) where
  exponent : exp40 b ≡ minus (field_of b) 1022
  exponent = (other-parts b some).0

  size_is : nat_abs (man40 b) ≡ size_of b
  size_is = ap nat_abs (other-parts b some).1 ∙ abs-with (sign_of b) (size_of b)

  sign-is : negative (man40 b) ≡ sign_of b
  sign-is = ap negative (other-parts b some).1 ∙ sign-with (sign_of b) (size_of b) (omega (arith, (size-bounds b).0))

  kept : (nat_abs (man40 b) * 2 ^ 30 ≤ 2 ^ 52 + fraction_of b) × (2 ^ 52 + fraction_of b < (nat_abs (man40 b) + 1) * 2 ^ 30)
  kept = rw size_is (keeps b)

  pub power : exp40 b -ℤ pos 23 ≡ minus (field_of b) 1045
  power = ap (λ (z : ℤ). z -ℤ pos 23) exponent ∙ less (field_of b) 1022 22

  least : lt_z (exp40 b -ℤ pos 23) (negsuc 1073) ≡ false
  least = rw power (at_least (field_of b) 1045 (lit≤ tt))

  most : lt_z (pos 1023) (exp40 b -ℤ pos 23) ≡ false
  most = rw power (at_most (field_of b) 1045 (omega arith))

  above : 0 < nat_abs (man40 b)
  above = omega (arith, size_is, (size-bounds b).0)

  whole : nat_abs (man40 b) < 2 ^ 53
  whole = omega (arith, size_is, (size-bounds b).1)

  -- its size is below 2 ^ 1024
  fits : field_of b < 2047 → size_of b * up (minus (field_of b) 1045) < 2 ^ 1024 * down (minus (field_of b) 1045)
  fits h =
      let n = size_of b in
      let k = minus (field_of b) 1045 in
      let small : n * 2 ^ field_of b < 2 ^ 2069 =
      lt_of_lt_of_le (shl_lt 23 (field_of b) (size-bounds b).1) (pow_mono {i = 23 + field_of b} {j = 2069} (omega arith)) in
      lt_of_mul-lt-mul_right (2 ^ 1045)
      (rw (minus_val n (field_of b) 1045, mul_right_comm (2 ^ 1024) (down k) (2 ^ 1045)) (mul-lt-mul_of_pos_right small (down_pos k)))

  finite : field_of b < 2047 → HasValue (read_back b) (sign_of b) (nat_abs (man40 b) * up (exp40 b -ℤ pos 23)) (down (exp40 b -ℤ pos 23))
  finite h =
      let k = exp40 b -ℤ pos 23 in
      subst (λ (s : Bool). HasValue (read_back b) s (nat_abs (man40 b) * up k) (down k)) sign-is
      (reads-exact (exp40 b) (man40 b) above whole least most (rw (size_is, power) (fits h)))

  infinite : field_of b ≡ 2047 → read_back b ≡ inf (sign_of b)
  infinite h =
      let big : 2 ^ 22 * 2 ^ 1002 ≤ size_of b * 2 ^ 1002 = mul-le-mul_right (2 ^ 1002) (size-bounds b).0 in
      reads_over (exp40 b) (man40 b) above whole least most (rw (size_is, power, h) big) ∙ ap inf sign-is

-- ---- the theorems, by the kind of number

-- a normal number with s = 2 ^ 52 + fraction: |m| * 2 ^ 30 ≤ s < (|m| + 1) * 2 ^ 30, and what is read is exactly m * 2 ^ (e - 23)
pub normal-back : (b : ℕ) → 0 < field_of b → field_of b < 2047
    → (nat_abs (man40 b) * 2 ^ 30 ≤ 2 ^ 52 + fraction_of b) × (2 ^ 52 + fraction_of b < (nat_abs (man40 b) + 1) * 2 ^ 30)
    × HasValue (read_back b) (sign_of b) (nat_abs (man40 b) * up (exp40 b -ℤ pos 23)) (down (exp40 b -ℤ pos 23))
normal-back b l h =
    let some : b % 2 ^ 63 ≡ 0 → ⊥ = λ z. omega arith in
    ((kept b some).0, (kept b some).1, finite b some h)

-- a subnormal number: the same of 2 ^ 52 + fraction, a leading one that it has not; e = -1022, and |m| * 2 ^ -1045 is read
pub subnormal-back : (b : ℕ) → field_of b ≡ 0 → 0 < fraction_of b
    → (nat_abs (man40 b) * 2 ^ 30 ≤ 2 ^ 52 + fraction_of b) × (2 ^ 52 + fraction_of b < (nat_abs (man40 b) + 1) * 2 ^ 30)
    × (exp40 b ≡ negsuc 1021) × HasValue (read_back b) (sign_of b) (nat_abs (man40 b)) (2 ^ 1045)
subnormal-back b h l =
    let some : b % 2 ^ 63 ≡ 0 → ⊥ = λ z. omega arith in
    let n = nat_abs (man40 b) in
    let k : exp40 b -ℤ pos 23 ≡ negsuc 1044 = power b some ∙ ap (λ (x : ℕ). minus x 1045) h in (
      (kept b some).0,
      (kept b some).1,
      exponent b some ∙ ap (λ (x : ℕ). minus x 1022) h,
      subst (λ (a : ℕ). HasValue (read_back b) (sign_of b) a (2 ^ 1045)) (mul-one n)
          (subst (λ (z : ℤ). HasValue (read_back b) (sign_of b) (n * up z) (down z)) k (finite b some (omega arith))),
    )

-- an infinity or a NaN: e = 1025, and an infinity of that sign is read
pub infinite-back : (b : ℕ) → field_of b ≡ 2047 → (exp40 b ≡ pos 1025) × (read_back b ≡ inf (sign_of b))
infinite-back b h =
    let some : b % 2 ^ 63 ≡ 0 → ⊥ = λ z. omega arith in
    (exponent b some ∙ ap (λ (x : ℕ). minus x 1022) h, infinite b some h)

-- both zeros: five zero bytes, and +0.0 is read
pub zero-back : (b : ℕ) → b % 2 ^ 63 ≡ 0 → (bytes40 b ≡ 0 ∷ 0 ∷ 0 ∷ 0 ∷ 0 ∷ []) × (read_back b ≡ zero_float)
unfolding bytes40 int_bytes bytes_of unsigned
zero-back b h =
    let z = zero-parts b h in (
      ap (λ (e : ℤ). int_bytes 2 e ++ int_bytes 3 (man40 b)) z.0 ∙ ap (λ (m : ℤ). int_bytes 2 (pos 0) ++ int_bytes 3 m) z.1,
      ap (value40 (exp40 b)) z.1 ∙ reads-zero (exp40 b),
    )

-- as floats: a NaN, whose bits count as 7FF8_0000_0000_0000, and the infinities
pub nan-back : read_back (bits64 nan) ≡ inf false
unfolding to_bits
nan-back = (infinite-back (bits64 nan) refl).1

pub inf-back : (s : Bool) → read_back (bits64 (inf s)) ≡ inf s
unfolding to_bits
inf-back true = (infinite-back (bits64 (inf true)) refl).1
inf-back false = (infinite-back (bits64 (inf false)) refl).1
