-- Numbers as ASCII text: decimal with no spare zero, and a byte as two upper-case hex digits.
-- That a decimal text decides its number, and that none starts with a spare zero, is in proofs/Decimal.
use Rattle.std.specs.Prelude.{ℕ, zero, suc, ◌+◌, ◌/◌, ◌%◌, cond, List, [], ◌∷◌, ◌++◌, ltb}

-- below ten one digit; else the tenth part's text, and the last digit behind it; k steps at most
unfoldable pub decimal_in : ℕ → ℕ → List ℕ
decimal_in zero n = (0x30 + n % 10) ∷ []
decimal_in (suc k) n = cond (ltb n 10) ((0x30 + n) ∷ []) (decimal_in k (n / 10) ++ ((0x30 + n % 10) ∷ []))

-- no number has more digits than it counts
unfoldable pub decimal_of : ℕ → List ℕ
decimal_of n = decimal_in n n

-- `0` to `9`, then `A` to `F`
abbrev pub hex_digit : ℕ → ℕ
hex_digit d = cond (ltb d 10) (0x30 + d) (0x37 + d)

unfoldable pub hex_of : ℕ → List ℕ
hex_of b = hex_digit (b / 16) ∷ hex_digit (b % 16) ∷ []
