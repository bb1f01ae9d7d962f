-- Document 01, 'Fields', FLOAT40 written: a binary64's 64 bits taken apart into e and m.
-- The bits are a sign, 11 bits of exponent field and 52 of fraction.
use Rattle.std.specs.Prelude.{ℕ, ◌+◌, ◌/◌, ◌%◌, ◌^◌, Bool, cond, List, ◌++◌, eqb, leb, ℤ, pos, neg_ℤ, Float}
use Rattle.std.specs.Float.{binary64}
use Rattle.std.specs.Float.Ieee.{minus, to_bits}
use Rattle.integer_write.specs.Writing.{int_bytes}
use Rattle.float40.specs.Float40.{value40}

abbrev pub sign_of : ℕ → Bool
sign_of b = leb (2 ^ 63) b

abbrev pub field_of : ℕ → ℕ
field_of b = b / 2 ^ 52 % 2 ^ 11

abbrev pub fraction_of : ℕ → ℕ
fraction_of b = b % 2 ^ 52

-- both zeros: no bit but the sign
abbrev pub is_zero : ℕ → Bool
is_zero b = eqb (b % 2 ^ 63) 0

-- |m|: 2 ^ 52 + fraction, divided by 2 ^ 30, rounded down
unfoldable pub size_of : ℕ → ℕ
size_of b = (2 ^ 52 + fraction_of b) / 2 ^ 30

-- n, with a sign
abbrev pub with_sign : Bool → ℕ → ℤ
with_sign s n = cond s (neg_ℤ (pos n)) (pos n)

-- e and m of the bits: 0 and 0 of both zeros, else the exponent field less 1022, and |m| with the sign
unfoldable pub exp40 : ℕ → ℤ
exp40 b = cond (is_zero b) (pos 0) (minus (field_of b) 1022)

unfoldable pub man40 : ℕ → ℤ
unfolding size_of
man40 b = cond (is_zero b) (pos 0) (with_sign (sign_of b) (size_of b))

-- the five bytes of the bits
unfoldable pub bytes40 : ℕ → List ℕ
unfolding exp40 man40 int_bytes
bytes40 b = int_bytes 2 (exp40 b) ++ int_bytes 3 (man40 b)

-- the bits of a float; a NaN counts as 7FF8_0000_0000_0000
abbrev pub bits64 : Float → ℕ
bits64 x = to_bits binary64 x

-- for the theorems: what the five bytes of the bits read as
abbrev pub read_back : ℕ → Float
read_back b = value40 (exp40 b) (man40 b)
