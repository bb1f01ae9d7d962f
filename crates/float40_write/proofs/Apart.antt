-- The 64 bits taken apart: e and m of both zeros and of all other patterns, and how large they are.
-- They fit an i16 and 24 bits, whatever the 64 bits are.
use Prim.Native.Nat.{ℕ, zero, suc, ◌+◌, ◌*◌, ◌%◌, ◌^◌, ◌<◌, ◌≤◌}
use mathlib.Core.Path.{◌≡◌, refl}
use mathlib.Core.Bool.{Bool, true, false}
use native.Mathlib.Omega.{arith}
use lib.IntN.{pos, nat_abs}
use lib.Signed.{mag}
use lib.Ieee.{minus}
use borrow.Author.Tests.{eq-eqb, ne_eqb}
use Rattle.general.proofs.Cases.{by-eq}
use Rattle.float40.proofs.Signed.{mag-minus}
use Rattle.float40_write.specs.Writing.{sign_of, field_of, fraction_of, size_of, with_sign, exp40, man40}

-- ---- the two cases

pub zero-parts : (b : ℕ) → b % 2 ^ 63 ≡ 0 → (exp40 b ≡ pos 0) × (man40 b ≡ pos 0)
unfolding exp40 man40
zero-parts b h = let e = eq-eqb (b % 2 ^ 63) 0 h in (rw e, rw e)

pub other-parts : (b : ℕ) → (b % 2 ^ 63 ≡ 0 → ⊥) → (exp40 b ≡ minus (field_of b) 1022) × (man40 b ≡ with_sign (sign_of b) (size_of b))
unfolding exp40 man40
other-parts b h = let e = ne_eqb (b % 2 ^ 63) 0 h in (rw e, rw e)

-- ---- |m| keeps the leading bits of s = 2 ^ 52 + fraction

pub keeps : (b : ℕ) → (size_of b * 2 ^ 30 ≤ 2 ^ 52 + fraction_of b) × (2 ^ 52 + fraction_of b < (size_of b + 1) * 2 ^ 30)
unfolding size_of
keeps b = (omega arith, omega arith)

pub size-bounds : (b : ℕ) → (2 ^ 22 ≤ size_of b) × (size_of b < 2 ^ 23)
unfolding size_of
size-bounds b = (omega arith, omega arith)

-- ---- signs

pub abs-with : (s : Bool) (n : ℕ) → nat_abs (with_sign s n) ≡ n
abs-with true zero = refl
abs-with true (suc n) = refl
abs-with false n = refl

pub mag-with : (s : Bool) (n : ℕ) → mag (with_sign s n) ≤ n
mag-with true zero = omega arith
mag-with true (suc n) = omega arith
mag-with false n = omega arith

-- ---- e and m fit their fields

pub exp-fits : (b : ℕ) → mag (exp40 b) < 2 ^ 15
exp-fits b =
    by-eq (b % 2 ^ 63) 0 (λ z. rw (zero-parts b z).0 (omega arith))
    (λ z. rw (other-parts b z).0 (mag-minus (field_of b) 1022 (2 ^ 15) (omega arith) (omega arith)))

pub man-fits : (b : ℕ) → mag (man40 b) < 2 ^ 23
man-fits b =
    by-eq (b % 2 ^ 63) 0 (λ z. rw (zero-parts b z).1 (omega arith))
    (λ z. rw (other-parts b z).1 (omega (arith, mag-with (sign_of b) (size_of b), (size-bounds b).1)))
