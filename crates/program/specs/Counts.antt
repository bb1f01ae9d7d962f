-- What a read answers: how many bytes came, or that it failed.
-- It is an `abbrev`, so that a caller's proof can use what it says.
use Rattle.std.specs.Prelude.{ℕ, ◌≤◌, Option, Some, None}

-- of a read into a room of so many bytes: how many came, no more than the room; or none, where it failed
abbrev pub Moved : ℕ → Option ℕ → Type 0
Moved room (Some came) = came ≤ room
Moved room None = Unit {0}
