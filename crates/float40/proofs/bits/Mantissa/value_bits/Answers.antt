-- What is left of `value_bits`: each of its returns is a case of Made, for the number that has the sign and the magnitude.
-- Its other numbers read back from the machine as the laws have them.
use Rattle.std.proofs.Common.{arith, rules, true, false, refl, sym, ap, subst, ◌∙◌, ◌≡◌, ℕ, ◌+◌, ◌-◌, ◌*◌, ◌%◌, ◌^◌, ◌<◌, ◌≤◌, ℤ, pos, ◌+ℤ◌, w32, w64, Fits, FitsSigned, to_z, of_z}
use mathlib.Core.Bool.{Bool, false≢true}
use native.Mathlib.Nat.{le_trans, le_of_eq, mod-eq_of_lt}
use lib.IntN.{negsuc, nat_abs}
use lib.Signed.{lt_z, le_z}
use lib.Count.{count_leading_zeros}
use lib.Ieee.{binary64, of_bits, of_fields, odd}
use mir.Syntax.{w16}
use mir.Val.{bool_byte}
use mir.ValLaws.{to_z-of_z}
use borrow.Author.Tests.{eq-eqb}
use Rattle.float40.specs.Float40.{negative, value40}
use Rattle.float40.specs.declared.bits.Mantissa.{Mantissa}
use Rattle.float40.specs.Private.{sign_bit, number_of, to_lead}
use Rattle.float40.proofs.Sign.{abs-with, sign-with}
use Rattle.float40.proofs.Signed.{counted, from_zero, not-below, at_most, past}
use Rattle.float40.proofs.Leading.{at-52, under-52}
use Rattle.float40.proofs.Made.{normal, subnormal, over, below, short-of, sign_le, sign_zero, sign-inf}
use Rattle.float40.proofs.bits.Mantissa.value_bits.Goals as goal
use Rattle.float40.proofs.bits.Mantissa.value_bits.Goals.{else-field-ge0-via-then-field-ge0+else-field-le2045, else-field-ge0-via-else-field-ge0}

pub returns-then-size-eq0 : goal.returns-then-size-eq0
unfolding value40 of_bits of_fields odd
returns-then-size-eq0 c =
    simp (eq-eqb (nat_abs (number_of c.args.self)) 0 (abs-with c.args.self.is_negative c.args.self.size ∙ c.if-size-eq0.true))

-- the sign's bit, as the machine has it
abbrev sign : Mantissa → ℕ
sign u = bool_byte u.is_negative * 2 ^ 63 % 2 ^ 64

as-bit : (s : Bool) → bool_byte s * 2 ^ 63 % 2 ^ 64 ≡ sign_bit s
as-bit true = refl
as-bit false = refl

-- from the field on: r is what `raised` answers, and F is the machine's number of it
module _ (e r : ℤ) (u : Mantissa) (e-fits : FitsSigned w16 e) (r-fits : FitsSigned w32 r) (some : 0 < u.size) (wide : u.size < 2 ^ 32)
    (r-is : r ≡ to_z w16 (of_z w16 e) +ℤ pos (1030 - count_leading_zeros 32 u.size)) where
  e-back : to_z w16 (of_z w16 e) ≡ e
  e-back = to_z-of_z w16 e e-fits

  -- sign and magnitude are those of the number
  sign-is : sign u ≡ sign_bit (negative (number_of u))
  sign-is = as-bit u.is_negative ∙ ap sign_bit (sym (sign-with u.is_negative u.size some))

  size-is : u.size ≡ nat_abs (number_of u)
  size-is = sym (abs-with u.is_negative u.size)

  sign_small : sign u ≤ 2 ^ 63
  sign_small = le_trans (le_of_eq sign-is) (sign_le (negative (number_of u)))

  field_is : to_z w32 (of_z w32 r) ≡ e +ℤ pos (1030 - count_leading_zeros 32 u.size)
  field_is = to_z-of_z w32 r r-fits ∙ r-is ∙ ap (λ (z : ℤ). z +ℤ pos (1030 - count_leading_zeros 32 u.size)) e-back

  n-some : 0 < nat_abs (number_of u)
  n-some = subst (λ (n : ℕ). 0 < n) size-is some

  n-wide : nat_abs (number_of u) < 2 ^ 32
  n-wide = subst (λ (n : ℕ). n < 2 ^ 32) size-is wide

  n-field : to_z w32 (of_z w32 r) ≡ e +ℤ pos (1030 - count_leading_zeros 32 (nat_abs (number_of u)))
  n-field = field_is ∙ ap (λ (n : ℕ). e +ℤ pos (1030 - count_leading_zeros 32 n)) size-is

  -- a normal value
  module _ (digits : ℕ) (digits-is : digits ≡ u.size * 2 ^ to_lead u.size) (low : le_z (pos 0) (to_z w32 (of_z w32 r)) ≡ true)
      (high : (f : ℕ) → to_z w32 (of_z w32 r) ≡ pos f → f < 2046) where
    field : (f : ℕ) × (f < 2046) × (to_z w32 (of_z w32 r) ≡ pos f)
    field = let f = from_zero (to_z w32 (of_z w32 r)) low in (f.0, high f.0 f.1, f.1)

    moved : nat_abs (to_z w32 (of_z w32 r)) * 2 ^ 52 % 2 ^ 64 ≡ field.0 * 2 ^ 52
    moved = ap (λ (z : ℤ). nat_abs z * 2 ^ 52 % 2 ^ 64) field.2 ∙ mod-eq_of_lt (omega (arith, field.1))

    normal-fits : Fits w64 (sign u + nat_abs (to_z w32 (of_z w32 r)) * 2 ^ 52 % 2 ^ 64 + digits)
    normal-fits = record { fits = omega (arith, moved, field.1, sign_small, digits-is, at-52 u.size some wide) }

    normal-is : of_bits binary64 (sign u + nat_abs (to_z w32 (of_z w32 r)) * 2 ^ 52 % 2 ^ 64 + digits) ≡ value40 e (number_of u)
    normal-is =
        let m = number_of u in
        let F = to_z w32 (of_z w32 r) in
        ap (λ (x : ℕ). of_bits binary64 (x + nat_abs F * 2 ^ 52 % 2 ^ 64 + digits)) sign-is
        ∙ ap (λ (x : ℕ). of_bits binary64 (sign_bit (negative m) + x + digits)) moved
        ∙ ap (λ (x : ℕ). of_bits binary64 (sign_bit (negative m) + field.0 * 2 ^ 52 + x)) (digits-is ∙ ap (λ (n : ℕ). n * 2 ^ to_lead n) size-is)
        ∙ normal e m n-some n-wide field.0 field.1 (sym n-field ∙ field.2)

  -- a zero below the powers
  zero-is : lt_z (to_z w16 (of_z w16 e)) (negsuc 1050) ≡ true → of_bits binary64 (sign u) ≡ value40 e (number_of u)
  zero-is t =
      ap (of_bits binary64) sign-is ∙ sign_zero (negative (number_of u))
      ∙ sym (below e (number_of u) n-some n-wide (ap (λ (z : ℤ). lt_z z (negsuc 1050)) (sym e-back) ∙ t))

  -- a subnormal value: q is what the second `raised` answers
  module _ (q : ℤ) (q-fits : FitsSigned w32 q) (q-is : q ≡ to_z w16 (of_z w16 e) +ℤ pos 1051) (low : lt_z (to_z w16 (of_z w16 e)) (negsuc 1050) ≡ false)
      (neg : lt_z (to_z w32 (of_z w32 r)) (pos 0) ≡ true) where
    count : (j : ℕ) × (e +ℤ pos 1051 ≡ pos j)
    count = counted 1050 e (ap (λ (z : ℤ). lt_z z (negsuc 1050)) (sym e-back) ∙ low)

    shift_is : to_z w32 (of_z w32 q) ≡ pos count.0
    shift_is = to_z-of_z w32 q q-fits ∙ q-is ∙ ap (λ (z : ℤ). z +ℤ pos 1051) e-back ∙ count.1

    short : count.0 < to_lead u.size
    short = short-of e (pos u.size) some wide count.0 count.1 (ap (λ (z : ℤ). lt_z z (pos 0)) (sym field_is) ∙ neg)

    room : u.size * 2 ^ count.0 < 2 ^ 53
    room = under-52 u.size some wide count.0 short

    units : u.size * 2 ^ nat_abs (to_z w32 (of_z w32 q)) % 2 ^ 64 ≡ u.size * 2 ^ count.0
    units = ap (λ (z : ℤ). u.size * 2 ^ nat_abs z % 2 ^ 64) shift_is ∙ mod-eq_of_lt (omega (arith, room))

    subnormal-fits : Fits w64 (sign u + u.size * 2 ^ nat_abs (to_z w32 (of_z w32 q)) % 2 ^ 64)
    subnormal-fits = record { fits = omega (arith, units, room, sign_small) }

    subnormal-is : of_bits binary64 (sign u + u.size * 2 ^ nat_abs (to_z w32 (of_z w32 q)) % 2 ^ 64) ≡ value40 e (number_of u)
    subnormal-is =
        let m = number_of u in
        ap (λ (x : ℕ). of_bits binary64 (x + u.size * 2 ^ nat_abs (to_z w32 (of_z w32 q)) % 2 ^ 64)) sign-is
        ∙ ap (λ (x : ℕ). of_bits binary64 (sign_bit (negative m) + x)) (units ∙ ap (λ (n : ℕ). n * 2 ^ count.0) size-is)
        ∙ subnormal e m n-some n-wide count.0 (subst (λ (n : ℕ). count.0 < to_lead n) size-is short) count.1

  -- an infinity
  infinite-is : (f : ℕ) → to_z w32 (of_z w32 r) ≡ pos f → 2046 ≤ f → of_bits binary64 (sign u + 0x7FF0000000000000) ≡ value40 e (number_of u)
  infinite-is f f-is much =
      ap (λ (x : ℕ). of_bits binary64 (x + 0x7FF0000000000000)) sign-is ∙ sign-inf (negative (number_of u))
      ∙ sym (over e (number_of u) n-some n-wide f much (sym n-field ∙ f-is))

pub overflow_add-result-then-field-le2045 : goal.overflow_add-result-then-field-le2045
overflow_add-result-then-field-le2045 c =
    let a = c.args in
    normal-fits a.e c.raised-field.result a.self c.ranges.e (search rules) (omega arith) (omega arith) c.raised-field.ensures
    c.normalised.result c.normalised.ensures c.if-field-ge0.true (λ f e. omega (arith, at_most e c.if-field-le2045.true))

pub returns-then-field-le2045 : goal.returns-then-field-le2045
returns-then-field-le2045 c =
    let a = c.args in
    normal-is a.e c.raised-field.result a.self c.ranges.e (search rules) (omega arith) (omega arith) c.raised-field.ensures
    c.normalised.result c.normalised.ensures c.if-field-ge0.true (λ f is. omega (arith, at_most is c.if-field-le2045.true))

pub returns-then-e-ltminus1051 : goal.returns-then-e-ltminus1051
returns-then-e-ltminus1051 c =
    let a = c.args in
    zero-is a.e c.raised-field.result a.self c.ranges.e (search rules) (omega arith) (omega arith) c.raised-field.ensures
    c.if-e-ltminus1051.true

pub overflow_add-result-then-field-lt0 : goal.overflow_add-result-then-field-lt0
overflow_add-result-then-field-lt0 c =
    let a = c.args in
    subnormal-fits a.e c.raised-field.result a.self c.ranges.e (search rules) (omega arith) (omega arith) c.raised-field.ensures
    c.raised.result (search rules) c.raised.ensures c.if-e-ltminus1051.false c.if-field-lt0.true

pub returns-then-field-lt0 : goal.returns-then-field-lt0
returns-then-field-lt0 c =
    let a = c.args in
    subnormal-is a.e c.raised-field.result a.self c.ranges.e (search rules) (omega arith) (omega arith) c.raised-field.ensures
    c.raised.result (search rules) c.raised.ensures c.if-e-ltminus1051.false c.if-field-lt0.true

pub returns : goal.returns
returns c =
    let a = c.args in
    let up = not-below (to_z w32 (of_z w32 c.raised-field.result)) c.if-field-lt0.false in
    let f = from_zero (to_z w32 (of_z w32 c.raised-field.result)) up in
    let much : 2046 ≤ f.0 =
    elim c.else-field-ge0.branch [
      | else-field-ge0-via-then-field-ge0+else-field-le2045 w ↦ omega (arith, past f.1 w.if-field-le2045.false)
      | else-field-ge0-via-else-field-ge0 w ↦ absurd (false≢true (sym w.if-field-ge0.false ∙ up))
    ] in
    infinite-is a.e c.raised-field.result a.self c.ranges.e (search rules) (omega arith) (omega arith) c.raised-field.ensures
    f.0 f.1 much
