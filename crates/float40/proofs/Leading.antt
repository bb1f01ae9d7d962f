-- The digits of a number of 32 bits that is not 0, by its count of leading zeros.
-- A shift by that count and 21 brings its leading one to bit 52.
use Prim.Native.Nat.{ℕ, suc, ◌+◌, ◌*◌, ◌^◌, ◌<◌, ◌≤◌}
use mathlib.Core.Path.{◌≡◌, ap, subst, ◌∙◌}
use native.Mathlib.Omega.{arith}
use native.Mathlib.Nat.{le_trans, le_of_eq, lt_of_le_of_lt, mul-le-mul_left, mul-le-mul_right}
use lib.Pow.{pow-add, pow_mono, shl_lt}
use lib.Count.{count_leading_zeros, leading_top}
use Rattle.float40.specs.Private.{to_lead}

module _ (n : ℕ) (some : 0 < n) (wide : n < 2 ^ 32) where
  -- the place of the leading one
  top : (j : ℕ) × (count_leading_zeros 32 n + suc j ≡ 32) × (2 ^ j ≤ n) × (n < 2 ^ suc j)
  top = leading_top 32 n some wide

  pub zeros-lt : count_leading_zeros 32 n < 32
  zeros-lt = omega (arith, top.1)

  pub at-52 : n * 2 ^ to_lead n < 2 ^ 53
  at-52 =
      let e : suc top.0 + to_lead n ≡ 53 = omega (arith, top.1) in
      subst (λ (x : ℕ). n * 2 ^ to_lead n < 2 ^ x) e (shl_lt (suc top.0) (to_lead n) top.3)

  -- a shorter shift stays below it
  pub under-52 : (t : ℕ) → t < to_lead n → n * 2 ^ t < 2 ^ 53
  under-52 t h = lt_of_le_of_lt (mul-le-mul_left n (pow_mono {i = t} {j = to_lead n} (omega arith))) at-52

  pub from-52 : 2 ^ 52 ≤ n * 2 ^ to_lead n
  from-52 =
      let e : 52 ≡ top.0 + to_lead n = omega (arith, top.1) in
      le_trans (le_of_eq (ap (λ (x : ℕ). 2 ^ x) e ∙ pow-add 2 top.0 (to_lead n)))
      (mul-le-mul_right (2 ^ to_lead n) top.2)
