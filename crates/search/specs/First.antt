-- Where a byte is first found in a list of bytes, and whether it is there at all.
-- Where it is not, the index is the list's length; a start past the end is its own answer.
use Rattle.std.specs.Prelude.{ℕ, suc, ◌+◌, Bool, false, cond, ◌||◌, List, [], ◌∷◌, drop, eqb}

-- the index of the first b of a list, or the list's length
unfoldable pub index_of : ℕ → List ℕ → ℕ
index_of b [] = 0
index_of b (x ∷ l) = cond (eqb x b) 0 (suc (index_of b l))

-- the same, from an index on
abbrev pub first_from : ℕ → ℕ → List ℕ → ℕ
first_from b i l = i + index_of b (drop i l)

-- whether a list has a byte b
abbrev pub has : ℕ → List ℕ → Bool
has b [] = false
has b (x ∷ l) = eqb x b || has b l
