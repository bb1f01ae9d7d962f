-- What an exponent and a mantissa read as, for every e and every m of an i32 and more: with k = e - 23, the sign is m's and
-- the size |m| * 2 ^ k exactly, but 0 where k is below -1074, and infinite where k is above 1023 or the size 2 ^ 1024 or more.
use Prim.Native.Nat.{ℕ, zero, suc, ◌*◌, ◌^◌, ◌<◌, ◌≤◌}
use mathlib.Core.Path.{◌≡◌, refl, sym, ap, subst, ◌∙◌}
use mathlib.Core.Bool.{Bool, true, false}
use native.Mathlib.Omega.{arith}
use native.Mathlib.Nat.{one-mul, mul-one, mul-zero, zero-mul, mul_assoc, mul_right_comm, mul-pos, le_of_lt, lt_of_mul-lt-mul_right}
use native.Mathlib.Nat.{mul-lt-mul_of_pos_right, lt_irrefl}
use lib.Dec.{T, eqb, lit≤}
use lib.Pow.{pow_pos}
use lib.IntN.{ℤ, pos, negsuc, nat_abs, ◌-ℤ◌}
use lib.Signed.{lt_z}
use lib.Ieee.{Float, nan, inf, fin, Format, binary64, up, down, unlike, round, mul, of_int, fits, is_nan}
use lib.Ieee.Digits.{minus_val}
use lib.Ieee.Exact.{HasValue, round_exact}
use lib.Ieee.Back.{round_whole, whole_unique}
use lib.Ieee.Fits.{down_pos, cond-fits, round-fits, mul-fits}
use lib.Ieee.Scale.{round_same}
use borrow.Author.Tests.{eq-eqb, ne_eqb}
use Rattle.general.proofs.Cases.{by-test, by-lt, by-eq}
use Rattle.float40.specs.Float40.{negative, pow2, value40}
use Rattle.general.specs.Number.{zero_float}
use Rattle.float40.proofs.Signed.{counted, plus-back}
use Rattle.float40.proofs.Pow2.{pow2-low, pow2-high, pow2-in}
use Rattle.float40.proofs.Over.{round-over}

-- ---- a product of a whole number x with a float that is not negative

plain : (t : Bool) → unlike t false ≡ t
plain true = refl
plain false = refl

-- with p * 2 ^ k
times : (f : Format) (x : Float) (s : Bool) (n p : ℕ) (k : ℤ) → HasValue x s n 1 → mul f x (fin false p k) ≡ round f s (n * (p * up k)) (down k)
unfolding mul
times f nan s n p k v = absurd v
times f (inf t) s n p k v = absurd v
times f (fin t a e) s n p k v =
    let r = p * up k in
    let same : a * up e ≡ n * down e = sym (mul-one (a * up e)) ∙ v.1 in
    ap (λ (u : Bool). round f u (a * up e * r) (down e * down k)) (plain t ∙ v.0)
    ∙ round_same f s (a * up e * r) (down e * down k) (n * r) (down k) (mul-pos (down_pos e) (down_pos k)) (down_pos k)
    (ap (λ (y : ℕ). y * r * down k) same
    ∙ ap (λ (y : ℕ). y * down k) (mul_right_comm n (down e) r)
    ∙ mul_assoc (n * r) (down e) (down k))

-- with infinity
times-inf : (f : Format) (x : Float) (s : Bool) (n : ℕ) → 0 < n → HasValue x s n 1 → mul f x (inf false) ≡ inf s
unfolding mul
times-inf f nan s n h v = absurd v
times-inf f (inf t) s n h v = absurd v
times-inf f (fin t zero e) s n h v = absurd (lt_irrefl 0
    (subst (λ (y : ℕ). 0 < y) (sym v.1 ∙ ap (λ (y : ℕ). y * 1) (zero-mul (up e)) ∙ zero-mul 1) (mul-pos h (down_pos e))))
times-inf f (fin t (suc a) e) s n h v = rw (ne_eqb (suc a) 0 (λ q. let z : ⊥ = omega (arith, q) in z)) (ap inf (plain t ∙ v.0))

-- with zero
round-zero : (s : Bool) → round binary64 s 0 1 ≡ fin s 0 (pos 0)
round-zero s =
    whole_unique binary64 (round binary64 s 0 1) (fin s 0 (pos 0)) s 0 (round-fits binary64 s 0 1) (unfold fits in tt)
    (round_whole binary64 s 0 (lit≤ tt)) (refl, refl)

-- ---- the mantissa as a float

of-int : (f : Format) (m : ℤ) → of_int f m ≡ round f (negative m) (nat_abs m) 1
unfolding of_int
of-int f (pos n) = refl
of-int f (negsuc n) = refl

-- ---- what is read

pub reads-zero : (e : ℤ) → value40 e (pos 0) ≡ zero_float
unfolding value40
reads-zero e = refl

-- a value that binary64 holds
pub value-fits : (e m : ℤ) → T (fits binary64 (value40 e m))
unfolding value40 fits
value-fits e m =
    let p = mul binary64 (of_int binary64 m) (pow2 (e -ℤ pos 23)) in
    cond-fits binary64 (eqb (nat_abs m) 0) zero_float p tt (mul-fits binary64 (of_int binary64 m) (pow2 (e -ℤ pos 23)))

module _ (e m : ℤ) (some : 0 < nat_abs m) (whole : nat_abs m < 2 ^ 53) where
  x : Float
  x = of_int binary64 m

  has : HasValue x (negative m) (nat_abs m) 1
  unfolding x
  has =
      subst (λ (y : Float). HasValue y (negative m) (nat_abs m) 1) (sym (of-int binary64 m))
      (round_whole binary64 (negative m) (nat_abs m) (le_of_lt whole))

  product : value40 e m ≡ mul binary64 x (pow2 (e -ℤ pos 23))
  unfolding value40 x
  product = rw (ne_eqb (nat_abs m) 0 (λ q. let z : ⊥ = omega arith in z))

  pub reads-below : lt_z (e -ℤ pos 23) (negsuc 1073) ≡ true → value40 e m ≡ fin (negative m) 0 (pos 0)
  reads-below h =
      product ∙ ap (mul binary64 x) (pow2-low (e -ℤ pos 23) h)
      ∙ times binary64 x (negative m) (nat_abs m) 0 (pos 0) has
      ∙ ap (λ (n : ℕ). round binary64 (negative m) n 1) (mul-zero (nat_abs m)) ∙ round-zero (negative m)

  pub reads-above : lt_z (pos 1023) (e -ℤ pos 23) ≡ true → value40 e m ≡ inf (negative m)
  reads-above h = product ∙ ap (mul binary64 x) (pow2-high (e -ℤ pos 23) h) ∙ times-inf binary64 x (negative m) (nat_abs m) some has

  module _ (low : lt_z (e -ℤ pos 23) (negsuc 1073) ≡ false) (high : lt_z (pos 1023) (e -ℤ pos 23) ≡ false) where
    rounded : value40 e m ≡ round binary64 (negative m) (nat_abs m * up (e -ℤ pos 23)) (down (e -ℤ pos 23))
    rounded =
        let k = e -ℤ pos 23 in
        product ∙ ap (mul binary64 x) (pow2-in k low high)
        ∙ times binary64 x (negative m) (nat_abs m) 1 k has
        ∙ ap (λ (y : ℕ). round binary64 (negative m) (nat_abs m * y) (down k)) (one-mul (up k))

    pub reads_over : 2 ^ 1024 * down (e -ℤ pos 23) ≤ nat_abs m * up (e -ℤ pos 23) → value40 e m ≡ inf (negative m)
    reads_over h =
        let k = e -ℤ pos 23 in
        rounded ∙ round-over binary64 (negative m) (nat_abs m * up k) (down k) (down_pos k) h

    pub reads-exact : nat_abs m * up (e -ℤ pos 23) < 2 ^ 1024 * down (e -ℤ pos 23)
        → HasValue (value40 e m) (negative m) (nat_abs m * up (e -ℤ pos 23)) (down (e -ℤ pos 23))
    reads-exact h =
        let k = e -ℤ pos 23 in
        let n = nat_abs m in
        let c = counted 1073 k low in
        let j = c.0 in
        let scaled : n * up k * 2 ^ 1074 ≡ n * 2 ^ j * down k =
        subst (λ (z : ℤ). n * up z * 2 ^ 1074 ≡ n * 2 ^ j * down z) (sym (plus-back k 1074 j c.1)) (minus_val n j 1074) in
        let room : n * 2 ^ j * down k < 2 ^ 2098 * down k =
        rw (← scaled, ← mul_right_comm (2 ^ 1024) (down k) (2 ^ 1074)) (mul-lt-mul_of_pos_right h (pow_pos 1074)) in
        subst (λ (y : Float). HasValue y (negative m) (n * up k) (down k)) (sym rounded)
        (round_exact binary64 (negative m) (n * up k) (down k) n j (down_pos k) whole (lt_of_mul-lt-mul_right (down k) room) scaled)

-- ---- never a NaN

number : (x : Float) (s : Bool) (a c : ℕ) → HasValue x s a c → is_nan x ≡ false
unfolding is_nan
number nan s a c h = absurd h
number (inf t) s a c h = absurd h
number (fin t m e) s a c h = refl

pub reads-number : (e m : ℤ) → nat_abs m < 2 ^ 53 → is_nan (value40 e m) ≡ false
unfolding value40 is_nan
reads-number e m w =
    let k = e -ℤ pos 23 in
    by-eq (nat_abs m) 0 (λ z. rw (eq-eqb (nat_abs m) 0 z))
    (λ s. let some : 0 < nat_abs m = omega arith in
    by-test (lt_z k (negsuc 1073)) (λ l. ap is_nan (reads-below e m some w l))
    (λ l. by-test (lt_z (pos 1023) k) (λ h. ap is_nan (reads-above e m some w h))
    (λ h. by-lt (nat_abs m * up k) (2 ^ 1024 * down k)
    (λ g. number (value40 e m) (negative m) (nat_abs m * up k) (down k) (reads-exact e m some w l h g))
    (λ g. ap is_nan (reads_over e m some w l h g)))))
