-- What `write_float40` wrote is read back, over the f64 that it was handed and by its contract as the check reads it off src/ (`Post`).
-- A NaN reads as +infinity, an infinity as itself, both zeros as +0.0, a normal number as its 23 leading digits, a subnormal one as no such part of it.
use Prim.Native.Nat.{ℕ, zero, suc, ◌+◌, ◌-◌, ◌*◌, ◌%◌, ◌^◌, ◌<◌, ◌≤◌}
use mathlib.Core.Path.{◌≡◌, sym, ap, subst, ◌∙◌}
use mathlib.Core.Bool.{Bool, false}
use mathlib.Core.List.{List}
use mathlib.Core.Logic.{◌⊎◌, inl, inr}
use native.Mathlib.Omega.{arith}
use native.Mathlib.Nat.{eq_of_mul-eq-mul_right, mul_assoc, mul_right_comm, mul-pos, zero-mul}
use lib.Dec.{T}
use lib.ListN.{length}
use lib.IntN.{ℤ, nat_abs}
use lib.Pow.{pow-add, pow_pos}
use lib.Ieee.{Float, nan, inf, fin, binary64, fits, up, down, minus, of_bits}
use lib.Ieee.Bits.{of_bits-to_bits}
use lib.Ieee.Digits.{minus_val}
use lib.Ieee.Exact.{HasValue}
use lib.Ieee.Fits.{up_pos, down_pos}
use Rattle.error.specs.Refusal.{yes}
use Rattle.general.specs.Number.{zero_float}
use Rattle.general.proofs.Cases.{by-eq}
use Rattle.integer.specs.Fields.{reading}
use Rattle.float40.specs.Float40.{float40_at}
use Rattle.float40_write.specs.Writing.{sign_of, field_of, fraction_of, man40, bits64, read_back}
use Rattle.float40_write.proofs.Means.{normal-means, subnormal-means, infinite-means}
use Rattle.float40_write.proofs.Back.{power, told_back, normal-back, subnormal-back, nan-back, inf-back, zero-back}
use Rattle.float40_write.proofs.write_float40.Reads as write-float40

-- a normal v is digits * 2 ^ (power - 1074), and y has the 23 leading ones of its 53 digits
pub record Normal (v y : Float) : Type 0 where
  pub sign : Bool
  pub digits : ℕ
  pub power : ℕ
  pub kept : ℕ
  pub written : HasValue v sign (digits * 2 ^ power) (2 ^ 1074)
  pub whole : (2 ^ 52 ≤ digits) × (digits < 2 ^ 53)
  pub read : HasValue y sign (kept * 2 ^ 30 * 2 ^ power) (2 ^ 1074)
  pub leading : (kept * 2 ^ 30 ≤ digits) × (digits < (kept + 1) * 2 ^ 30)

-- a subnormal v is digits * 2 ^ -1074 with digits below 2 ^ 52; y has a leading one that v has not, and half the unit
pub record Subnormal (v y : Float) : Type 0 where
  pub sign : Bool
  pub digits : ℕ
  pub kept : ℕ
  pub written : HasValue v sign digits (2 ^ 1074)
  pub small : (0 < digits) × (digits < 2 ^ 52)
  pub read : HasValue y sign kept (2 ^ 1045)
  pub leading : (kept * 2 ^ 30 ≤ 2 ^ 52 + digits) × (2 ^ 52 + digits < (kept + 1) * 2 ^ 30)

-- what a read answers where v was written
abbrev pub Back : Float → Float → Type 0
Back nan y = y ≡ inf false
Back (inf s) y = y ≡ inf s
Back (fin s zero e) y = y ≡ zero_float
Back (fin s (suc m) e) y = Normal (fin s (suc m) e) y ⊎ Subnormal (fin s (suc m) e) y

-- ---- one size, as two fractions

same_size : (x : Float) (s : Bool) (a c num den : ℕ) → 0 < c → num * c ≡ a * den → HasValue x s a c → HasValue x s num den
same_size nan s a c num den p h v = v
same_size (inf t) s a c num den p h v = v
same_size (fin t m e) s a c num den p h v =
    let l = m * up e in
    let d = down e in
    let left : l * den * c ≡ a * d * den = mul_right_comm l den c ∙ ap (λ (z : ℕ). z * den) v.1 in
    let right : num * d * c ≡ a * d * den = mul_right_comm num d c ∙ ap (λ (z : ℕ). z * d) h ∙ mul_right_comm a den d in
    (v.0, eq_of_mul-eq-mul_right c p (l * den) (num * d) (left ∙ sym right))

-- n * 2 ^ (x - 1045), in units of 2 ^ -1074
in-units : (n x : ℕ) → 0 < x → n * 2 ^ 30 * 2 ^ (x - 1) * down (minus x 1045) ≡ n * up (minus x 1045) * 2 ^ 1074
in-units n x l =
    let d = down (minus x 1045) in
    let u = up (minus x 1045) in
    let one : 2 ^ 30 * 2 ^ (x - 1) ≡ 2 ^ x * 2 ^ 29 =
    sym (pow-add 2 30 (x - 1)) ∙ ap (λ (z : ℕ). 2 ^ z) (let q : 30 + (x - 1) ≡ x + 29 = omega arith in q) ∙ pow-add 2 x 29 in
    let two : n * 2 ^ 30 * 2 ^ (x - 1) ≡ n * 2 ^ x * 2 ^ 29 =
    mul_assoc n (2 ^ 30) (2 ^ (x - 1)) ∙ ap (λ (z : ℕ). n * z) one ∙ sym (mul_assoc n (2 ^ x) (2 ^ 29)) in
    ap (λ (z : ℕ). z * d) two
    ∙ mul_right_comm (n * 2 ^ x) (2 ^ 29) d
    ∙ ap (λ (z : ℕ). z * 2 ^ 29) (sym (minus_val n x 1045))
    ∙ mul_assoc (n * u) (2 ^ 1045) (2 ^ 29)
    ∙ ap (λ (z : ℕ). n * u * z) (sym (pow-add 2 1045 29))

-- ---- the kinds of a finite number, by the field of its bits

module _ (b : ℕ) where
  normal-is : 0 < field_of b → field_of b < 2047 → Normal (of_bits binary64 b) (read_back b)
  normal-is l h =
      let some : b % 2 ^ 63 ≡ 0 → ⊥ = λ z. omega arith in
      let n = nat_abs (man40 b) in
      let x = field_of b in
      let back = normal-back b l h in
      let value : HasValue (read_back b) (sign_of b) (n * up (minus x 1045)) (down (minus x 1045)) =
      subst (λ (z : ℤ). HasValue (read_back b) (sign_of b) (n * up z) (down z)) (power b some) back.2 in
      record {
        sign = sign_of b;
        digits = 2 ^ 52 + fraction_of b;
        power = x - 1;
        kept = n;
        written = normal-means b l h;
        whole = (omega arith, omega arith);
        read =
            same_size (read_back b) (sign_of b) (n * up (minus x 1045)) (down (minus x 1045)) (n * 2 ^ 30 * 2 ^ (x - 1)) (2 ^ 1074)
            (down_pos (minus x 1045)) (in-units n x l) value;
        leading = (back.0, back.1);
      }

  subnormal-is : field_of b ≡ 0 → 0 < fraction_of b → Subnormal (of_bits binary64 b) (read_back b)
  subnormal-is h l =
      let back = subnormal-back b h l in
      record {
        sign = sign_of b;
        digits = fraction_of b;
        kept = nat_abs (man40 b);
        written = subnormal-means b h;
        small = (l, omega arith);
        read = back.3;
        leading = (back.0, back.1);
      }

-- ---- a size that is 0, and one that is not

no_size : (s t : Bool) (e : ℤ) (a c : ℕ) → HasValue (fin s zero e) t a c → 0 < a → ⊥
no_size s t e a c h l =
    let p : 0 < a * down e = mul-pos l (down_pos e) in
    let z : a * down e ≡ 0 = sym h.1 ∙ ap (λ (n : ℕ). n * c) (zero-mul (up e)) ∙ zero-mul c in
    omega arith

some_size : (s t : Bool) (m : ℕ) (e : ℤ) (c : ℕ) → 0 < c → HasValue (fin s (suc m) e) t 0 c → ⊥
some_size s t m e c l h =
    let p : 0 < suc m * up e * c = mul-pos (mul-pos (omega arith) (up_pos e)) l in
    let z : suc m * up e * c ≡ 0 = h.1 ∙ zero-mul (down e) in
    omega arith

-- ---- the theorems

module _ (b : ℕ) where
  zero_is : (s : Bool) (e : ℤ) → of_bits binary64 b ≡ fin s zero e → read_back b ≡ zero_float
  zero_is s e is =
      by-eq (field_of b) 2047 (λ h. absurd (infinite-means b h s zero e is)) (λ few.
      by-eq (field_of b) 0
      (λ h. by-eq (fraction_of b) 0 (λ z. (zero-back b (omega arith)).1) (λ z.
      absurd (no_size s (sign_of b) e (fraction_of b) (2 ^ 1074)
      (subst (λ (v : Float). HasValue v (sign_of b) (fraction_of b) (2 ^ 1074)) is (subnormal-means b h)) (omega arith))))
      (λ h. let n = normal-is b (omega arith) (omega arith) in
      absurd (no_size s n.sign e (n.digits * 2 ^ n.power) (2 ^ 1074)
      (subst (λ (v : Float). HasValue v n.sign (n.digits * 2 ^ n.power) (2 ^ 1074)) is n.written)
      (mul-pos (omega (arith, n.whole.0)) (pow_pos n.power)))))

  other-is : (s : Bool) (m : ℕ) (e : ℤ) → of_bits binary64 b ≡ fin s (suc m) e
      → Normal (fin s (suc m) e) (read_back b) ⊎ Subnormal (fin s (suc m) e) (read_back b)
  other-is s m e is =
      by-eq (field_of b) 2047 (λ h. absurd (infinite-means b h s (suc m) e is)) (λ few.
      by-eq (field_of b) 0
      (λ h. by-eq (fraction_of b) 0
      (λ z. absurd (some_size s (sign_of b) m e (2 ^ 1074) (pow_pos 1074)
      (subst (λ (n : ℕ). HasValue (fin s (suc m) e) (sign_of b) n (2 ^ 1074)) z
      (subst (λ (v : Float). HasValue v (sign_of b) (fraction_of b) (2 ^ 1074)) is (subnormal-means b h)))))
      (λ z. inr (subst (λ (v : Float). Subnormal v (read_back b)) is (subnormal-is b h (omega arith)))))
      (λ h. inl (subst (λ (v : Float). Normal v (read_back b)) is (normal-is b (omega arith) (omega arith)))))

-- what the bits of v read as; every f64 fits, that being what its type says of it
pub reads_as : (v : Float) → T (fits binary64 v) → Back v (read_back (bits64 v))
reads_as nan h = nan-back
reads_as (inf s) h = inf-back s
reads_as (fin s zero e) h = zero_is (bits64 (fin s zero e)) s e (of_bits-to_bits binary64 (fin s zero e) h)
reads_as (fin s (suc m) e) h = other-is (bits64 (fin s (suc m) e)) s m e (of_bits-to_bits binary64 (fin s (suc m) e) h)

-- and through the buffer: where there is room, a read at the place answers that
pub float_back : (κs a r x : _) → write-float40.Post κs a r x → T (fits binary64 a.1.1.0) → a.1.0 + 5 ≤ length a.0.now
    → (reading 7 5 float40_at x.0.now a.1.0 ≡ yes (read_back (bits64 a.1.1.0))) × Back a.1.1.0 (read_back (bits64 a.1.1.0))
float_back κs a r x p fit room =
    let v = a.1.1.0 in
    let at = a.1.0 in
    (ap (λ (l : List ℕ). reading 7 5 float40_at l at) p.1 ∙ told_back (bits64 v) a.0.now at room, reads_as v fit)
