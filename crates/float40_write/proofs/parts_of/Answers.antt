-- What is left of `parts_of`: a mask is a remainder, a shift a quotient, and the numbers fit.
-- A zero, a negative and a positive pattern each have their case.
use Rattle.std.proofs.Common.{arith, sym, ap, subst, ◌∙◌, ◌≡◌, ℕ, ◌+◌, ◌/◌, ◌%◌, ◌^◌, ◌<◌, ◌≤◌, Bool, true, bit_and, ℤ, pos, ◌-ℤ◌, w32, FitsSigned, to_z, of_z}
use lib.Bits.{and_mask, mask_lt}
use lib.IntN.{neg_ℤ, +ℤ_idl}
use lib.Ieee.{minus}
use mir.Syntax.{w16}
use mir.ValLaws.{to_z_pos, to_z-of_z}
use borrow.Author.Tests.{le-leb, lt-leb}
use Rattle.float40.proofs.Signed.{sub-minus}
use Rattle.float40_write.specs.Writing.{sign_of, size_of, exp40, man40, with_sign}
use Rattle.float40_write.proofs.Apart.{zero-parts, other-parts, size-bounds, exp-fits, mag-with}
use Rattle.float40_write.proofs.parts_of.Goals as goal

-- the exponent field and |m|, as the code has them
abbrev field : ℕ → ℕ
field b = bit_and (b / 4503599627370496) 2047

abbrev size : ℕ → ℕ
size b = (4503599627370496 + bit_and b 4503599627370495) / 1073741824

size_is : (b : ℕ) → size b ≡ size_of b
unfolding size_of
size_is b = ap (λ (n : ℕ). (4503599627370496 + n) / 1073741824) (and_mask b 52)

size-lt : (b : ℕ) → size b < 8388608
size-lt b = omega (arith, size_is b, (size-bounds b).1)

pub returns-then-bits-eq0 : goal.returns-then-bits-eq0
returns-then-bits-eq0 c =
    let b = c.args.bits in
    let z = zero-parts b (sym (and_mask b 63) ∙ c.if-bits-eq0.true) in
    (sym z.0, sym z.1)

-- any pattern but a zero's
module _ (b : ℕ) (some : bit_and b 9223372036854775807 ≡ 0 → ⊥) where
  parts : (exp40 b ≡ minus (b / 2 ^ 52 % 2 ^ 11) 1022) × (man40 b ≡ with_sign (sign_of b) (size_of b))
  parts = other-parts b (λ z. some (and_mask b 63 ∙ z))

  exponent-is : to_z w16 (field b) -ℤ pos 1022 ≡ exp40 b
  exponent-is =
      ap (λ (z : ℤ). z -ℤ pos 1022) (to_z_pos w16 (field b) (omega (arith, mask_lt (b / 2 ^ 52) 11)))
      ∙ sub-minus (field b) 1022 ∙ ap (λ (n : ℕ). minus n 1022) (and_mask (b / 2 ^ 52) 11) ∙ sym parts.0

  sub-exponent : FitsSigned w16 (to_z w16 (field b) -ℤ pos 1022)
  sub-exponent = subst (λ (z : ℤ). FitsSigned w16 z) (sym exponent-is) (record { sfits = exp-fits b })

  exponent : to_z w16 (of_z w16 (to_z w16 (field b) -ℤ pos 1022)) ≡ exp40 b
  exponent = to_z-of_z w16 _ sub-exponent ∙ exponent-is

  plus : b < 2 ^ 63 → to_z w32 (size b) ≡ man40 b
  plus h =
      to_z_pos w32 (size b) (omega (arith, size-lt b)) ∙ ap pos (size_is b)
      ∙ ap (λ (s : Bool). with_sign s (size_of b)) (sym (lt-leb (2 ^ 63) b h)) ∙ sym parts.1

  negated : pos 0 -ℤ to_z w32 (size b) ≡ neg_ℤ (pos (size b))
  negated = ap (λ (z : ℤ). pos 0 -ℤ z) (to_z_pos w32 (size b) (omega (arith, size-lt b))) ∙ +ℤ_idl (neg_ℤ (pos (size b)))

  negated_fits : FitsSigned w32 (pos 0 -ℤ to_z w32 (size b))
  negated_fits = subst (λ (z : ℤ). FitsSigned w32 z) (sym negated) (record { sfits = omega (arith, mag-with true (size b), size-lt b) })

  less : 2 ^ 63 ≤ b → to_z w32 (of_z w32 (pos 0 -ℤ to_z w32 (size b))) ≡ man40 b
  less h =
      to_z-of_z w32 _ negated_fits ∙ negated ∙ ap (λ (n : ℕ). neg_ℤ (pos n)) (size_is b)
      ∙ ap (λ (s : Bool). with_sign s (size_of b)) (sym (le-leb (2 ^ 63) b h)) ∙ sym parts.1

pub returns-then-bits-ne0 : goal.returns-then-bits-ne0
returns-then-bits-ne0 c =
    let some = c.if-bits-eq0.false in
    (exponent c.args.bits some, less c.args.bits some (omega (arith, c.if-bits-ne0.true)))

pub returns-else-bits-ne0 : goal.returns-else-bits-ne0
returns-else-bits-ne0 c =
    let some = c.if-bits-eq0.false in
    (exponent c.args.bits some, plus c.args.bits some (omega (arith, c.if-bits-ne0.false)))
