-- Request 2: where a wire is refused for its escapes. It has passed what is tested before them;
-- then its interior's first wrong escape is an FD with nothing behind it (12), or with a byte behind it that is no code (4).
use Rattle.std.specs.Prelude.{ℕ, ◌-◌, ◌≤◌, ◌≡◌, List, [], length, get_or}
use Rattle.unstuffing.specs.Escapes.{FirstWrong, FirstCode}
use Rattle.checking.specs.Rule.{interior}

-- at least 7 bytes, F0 first and F1 last
pub record Enclosed (wire : List ℕ) : Type 0 where
  pub long : 7 ≤ length wire
  pub first : get_or wire 0 0 ≡ 0xF0
  pub last : get_or wire (length wire - 1) 0 ≡ 0xF1

-- the first wrong escape is cut off, at an offset in the interior
abbrev pub CutOff : List ℕ → ℕ → Type 0
CutOff wire offset = Enclosed wire × FirstWrong (interior wire) offset []

-- the first wrong escape has a byte behind it that is no code
abbrev pub WrongCode : List ℕ → ℕ → ℕ → Type 0
WrongCode wire offset code = Enclosed wire × FirstCode (interior wire) offset code
