-- What the 64 bits stand for in binary64, by the parts that the writer takes: sign, exponent field and fraction.
-- So s = 2 ^ 52 + fraction is a normal number's significand, and a subnormal one has no leading one.
use Prim.Native.Nat.{ℕ, zero, suc, ◌+◌, ◌-◌, ◌*◌, ◌^◌, ◌<◌}
use mathlib.Core.Path.{◌≡◌, sym, ap, subst, ◌∙◌}
use mathlib.Core.Bool.{Bool, true, false, cond}
use native.Mathlib.Omega.{arith}
use native.Mathlib.Nat.{mul-one}
use lib.Dec.{eqb}
use lib.IntN.{ℤ}
use lib.Pow.{field}
use lib.Ieee.{Float, nan, inf, fin, binary64, odd, of_fields, of_bits}
use lib.Ieee.Exact.{HasValue, odd_sign}
use borrow.Author.Tests.{ne_eqb}
use Rattle.float40_write.specs.Writing.{sign_of, field_of, fraction_of}

apart : (b : ℕ) → of_bits binary64 b ≡ of_fields binary64 (sign_of b) (field_of b) (fraction_of b)
unfolding of_bits
apart b = ap (λ (x : ℕ). of_fields binary64 (sign_of b) x (fraction_of b)) (field b 11 52)

normal : (s : Bool) (x t : ℕ) → 0 < x → x < 2047 → HasValue (of_fields binary64 s x t) s ((2 ^ 52 + t) * 2 ^ (x - 1)) (2 ^ 1074)
unfolding of_fields
normal s zero t l h = absurd (let q : ⊥ = omega arith in q)
normal s (suc x) t l h =
    let e : suc x - 1 ≡ x = omega arith in
    rw (ne_eqb (suc x) 2047 (λ q. let z : ⊥ = omega arith in z), e) (odd_sign 53 s (2 ^ 52 + t) x 1074)

pub normal-means : (b : ℕ) → 0 < field_of b → field_of b < 2047
    → HasValue (of_bits binary64 b) (sign_of b) ((2 ^ 52 + fraction_of b) * 2 ^ (field_of b - 1)) (2 ^ 1074)
normal-means b l h = rw (apart b) (normal (sign_of b) (field_of b) (fraction_of b) l h)

pub subnormal-means : (b : ℕ) → field_of b ≡ 0 → HasValue (of_bits binary64 b) (sign_of b) (fraction_of b) (2 ^ 1074)
unfolding of_fields
subnormal-means b h =
    rw (apart b, h)
    (subst (λ (n : ℕ). HasValue (odd 53 (sign_of b) (fraction_of b) 0 1074) (sign_of b) n (2 ^ 1074)) (mul-one (fraction_of b))
    (odd_sign 53 (sign_of b) (fraction_of b) 0 1074))

abbrev Infinite : Float → Type 0
Infinite nan = Unit
Infinite (inf s) = Unit
Infinite (fin s m e) = ⊥

-- an exponent field of ones is no finite number's
not_finite : (c s t : Bool) (m : ℕ) (e : ℤ) → cond c (inf s) nan ≡ fin t m e → ⊥
not_finite true s t m e p = subst Infinite p tt
not_finite false s t m e p = subst Infinite p tt

pub infinite-means : (b : ℕ) → field_of b ≡ 2047 → (s : Bool) (m : ℕ) (e : ℤ) → of_bits binary64 b ≡ fin s m e → ⊥
unfolding of_fields
infinite-means b h s m e p =
    not_finite (eqb (fraction_of b) 0) (sign_of b) s m e
    (sym (apart b ∙ ap (λ (x : ℕ). of_fields binary64 (sign_of b) x (fraction_of b)) h) ∙ p)
