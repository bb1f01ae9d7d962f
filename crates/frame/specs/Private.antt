-- A client may skip this file: words for the private walks over a payload's stuffed bytes, which no public contract cites.
-- `raw` is what a walk over stuffed bytes writes, one byte at a time; of a proper string it is what that unstuffs to (proofs/Walking).
use Rattle.std.specs.Prelude.{ℕ, ◌+◌, cond, List, [], ◌∷◌, eqb}
use Rattle.stuffing.specs.Stuff.{unescape_of}

-- what b stands for after p
abbrev pub stands_for : ℕ → ℕ → ℕ
stands_for p b = cond (eqb p 0xFD) (unescape_of b) b

-- what stuffed bytes stand for after p: FD itself stands for nothing
abbrev pub raw : ℕ → List ℕ → List ℕ
raw p [] = []
raw p (b ∷ l) = cond (eqb b 0xFD) (raw b l) (stands_for p b ∷ raw b l)

-- how many places a walk touches: at FD it writes what the next byte overwrites
abbrev pub slots : List ℕ → ℕ
slots [] = 0
slots (b ∷ []) = 1
slots (b ∷ c ∷ l) = cond (eqb b 0xFD) 0 1 + slots (c ∷ l)
