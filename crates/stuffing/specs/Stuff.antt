-- Document 01, 'Frames': stuffing writes F0, F1, FD, FA as FD 01, FD 02, FD 03, FD 04; the checksum's sum wraps at 65,536.
-- `escape_of` and `unescape_of` are the table of codes, `stuff` a string as it is written, `sum16` its sum.
use Rattle.std.specs.Prelude.{ℕ, ◌+◌, ◌%◌, cond, List, [], ◌∷◌, ◌++◌, ◌==◌}

-- the code of a byte that is written as an escape; 0 for a byte that stands for itself
unfoldable pub escape_of : ℕ → ℕ
escape_of b = cond (b == 0xF0) 1 (cond (b == 0xF1) 2 (cond (b == 0xFD) 3 (cond (b == 0xFA) 4 0)))

-- and back: the byte of a code; 0 for any other number
unfoldable pub unescape_of : ℕ → ℕ
unescape_of c = cond (c == 1) 0xF0 (cond (c == 2) 0xF1 (cond (c == 3) 0xFD (cond (c == 4) 0xFA 0)))

-- a byte as it is written: itself, or FD and its code
unfoldable pub stuff_byte : ℕ → List ℕ
stuff_byte b = cond (escape_of b == 0) (b ∷ []) (0xFD ∷ escape_of b ∷ [])

abbrev pub stuff : List ℕ → List ℕ
stuff [] = []
stuff (b ∷ l) = stuff_byte b ++ stuff l

abbrev pub total : List ℕ → ℕ
total [] = 0
total (b ∷ l) = b + total l

-- the sum of a string's bytes, wrapped at 65,536
unfoldable pub sum16 : List ℕ → ℕ
sum16 l = total l % 65536
