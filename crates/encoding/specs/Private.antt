-- Only private contracts cite this, and a client may skip it: what is worked out of each byte before it is placed.
-- The last byte that is stored for it, and how many are.
use Rattle.std.specs.Prelude.{◌≡◌, ℕ, ◌<◌, cond, List, length, ◌==◌, slice_index}
use Rattle.stuffing.specs.Stuff.{escape_of, stuff_byte}

-- a byte's code, where it has one, else the byte itself
abbrev pub last_of : ℕ → ℕ
last_of b = cond (escape_of b == 0) b (escape_of b)

-- both are noted for each byte of s
pub record Coded (s last width : List ℕ) : Type 0 where
  pub lasts : (k : ℕ) → k < length s → slice_index last k ≡ last_of (slice_index s k)
  pub widths : (k : ℕ) → k < length s → slice_index width k ≡ length (stuff_byte (slice_index s k))
