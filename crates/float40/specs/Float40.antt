-- Document 01, 'Fields', FLOAT40: exponent e (INT16), then mantissa m (INT24).
-- What is read is one product, of m and a float that is a power of two.
use Rattle.std.specs.Prelude.{ℕ, ◌+◌, Bool, true, false, cond, List, eqb, ℤ, pos, negsuc, nat_abs, ◌-ℤ◌, Float}
use Rattle.std.specs.Int.Signed.{lt_z}
use Rattle.std.specs.Float.{fin, inf, binary64}
use Rattle.std.specs.Float.Ieee.{mul, of_int}
use Rattle.general.specs.Number.{zero_float}
use Rattle.integer.specs.Fields.{int_at}

-- the float 2 ^ k: exact from -1074 to 1023, +0.0 below and infinity above
unfoldable pub pow2 : ℤ → Float
pow2 k = cond (lt_z k (negsuc 1073)) zero_float (cond (lt_z (pos 1023) k) (inf false) (fin false 1 k))

-- the value of e and m: +0.0 where m = 0, else m times the float 2 ^ (e - 23)
unfoldable pub value40 : ℤ → ℤ → Float
unfolding pow2
value40 e m = cond (eqb (nat_abs m) 0) zero_float (mul binary64 (of_int binary64 m) (pow2 (e -ℤ pos 23)))

-- the value of the five bytes from a place on
unfoldable pub float40_at : List ℕ → ℕ → Float
unfolding int_at value40
float40_at s at = value40 (int_at 2 s at) (int_at 3 s (at + 2))

-- for the theorems: the sign of a number's float, true below 0
abbrev pub negative : ℤ → Bool
negative (pos n) = false
negative (negsuc n) = true
