-- A client may skip this file: words for the bits of a value, which no public contract cites.
-- binary64 has the sign at bit 63; a magnitude's leading one is moved to bit 52.
use Rattle.std.specs.Prelude.{ℕ, ◌+◌, ◌^◌, Bool, cond, ℤ, pos, neg_ℤ}
use Rattle.std.specs.Int.Count.{count_leading_zeros}
use Rattle.float40.specs.declared.bits.Mantissa.{Mantissa}

-- the sign's bit, as a number
abbrev pub sign_bit : Bool → ℕ
sign_bit s = cond s (2 ^ 63) 0

-- the number that sign and magnitude stand for
abbrev pub with_sign : Bool → ℕ → ℤ
with_sign s n = cond s (neg_ℤ (pos n)) (pos n)

abbrev pub number_of : Mantissa → ℤ
number_of m = with_sign m.is_negative m.size

-- the shift that brings the leading one of a 32-bit number to bit 52
abbrev pub to_lead : ℕ → ℕ
to_lead size = 21 + count_leading_zeros 32 size
