-- A client may skip this file: words for the private walks over stuffed strings, which no public contract cites.
-- They speak of proper strings (specs/Escapes), but for a step's answer.
use Rattle.std.specs.Prelude.{ℕ, ◌+◌, cond, List, [], ◌∷◌, ◌==◌}
use Rattle.stuffing.specs.Stuff.{unescape_of}

-- how many bytes are not FD: as many as a proper string unstuffs to
abbrev pub kept : List ℕ → ℕ
kept [] = 0
kept (b ∷ l) = cond (b == 0xFD) 0 1 + kept l

-- how many bytes the step at a byte takes: FD and its code are two
abbrev pub width_of : ℕ → ℕ
width_of b = cond (b == 0xFD) 2 1

-- the unstuffed byte that a proper string starts with
abbrev pub value_of : List ℕ → ℕ
value_of [] = 0
value_of (b ∷ []) = b
value_of (b ∷ c ∷ l) = cond (b == 0xFD) (unescape_of c) b
