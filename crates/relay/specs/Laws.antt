-- Request 11: the relay's laws, in the request's own words and order, over the definitions that the operations' contracts cite.
-- Strings are of any length, the empty one included, and no room limit enters. The theorem `laws` (proofs/Laws) has this type.
use Rattle.std.specs.Prelude.{ℕ, ◌+◌, ◌%◌, ◌<◌, ◌≡◌, List, [], ◌++◌, length, take}
use Rattle.error.specs.Refusal.{yes, on_yes}
use Rattle.stuffing.specs.Stuff.{stuff, sum16}
use Rattle.unstuffing.specs.Unstuff.{unstuff, unit_bytes, offset_at}

pub record Laws : Type 0 where
  -- "Stuffing two byte strings one after the other is the stuffing of both joined,
  pub joins : (s t : List ℕ) → stuff s ++ stuff t ≡ stuff (s ++ t)
  -- the empty string included."
  pub empty : stuff [] ≡ []
  -- "The sum of joined strings is the sum of the two sums, wrapped at 65,536,
  pub sums : (s t : List ℕ) → sum16 (s ++ t) ≡ (sum16 s + sum16 t) % 65536
  -- in either order."
  pub either : (s t : List ℕ) → sum16 (s ++ t) ≡ (sum16 t + sum16 s) % 65536
  -- "Unstuffing a stuffed string gives it back,
  pub back : (s : List ℕ) → on_yes unit_bytes (unstuff 0 (stuff s)) ≡ yes s
  -- (byte number k with the offset where it stands stuffed: behind the k bytes before it, stuffed)
  pub offsets : (s : List ℕ) (k : ℕ) → k < length s → on_yes (λ us. offset_at us k) (unstuff 0 (stuff s)) ≡ yes (length (stuff (take k s)))
  -- and two different strings never stuff alike."
  pub apart : (s t : List ℕ) → stuff s ≡ stuff t → s ≡ t
