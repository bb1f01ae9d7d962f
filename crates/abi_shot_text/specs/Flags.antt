-- The answer to a search as C takes it: a number.
-- A place in a payload passes as it is.
use Rattle.std.specs.Prelude.{ℕ, ◌≡◌, Bool}
use Rattle.shot_text.specs.Search.{Says}
use Rattle.abi.specs.Answer.{flag_of}

-- 1 where P holds, else 0
abbrev pub Flags : Type 0 → ℕ → Type 0
Flags P r = (b : Bool) × (r ≡ flag_of b) × Says P b
