-- A client may skip this file: words for the private walks over a wire's interior, which no public contract cites.
-- `Ends` is where the checksum starts, `front_rule` what is tested and told of the bytes before it.
use Rattle.std.specs.Prelude.{ℕ, ◌+◌, ◌≤◌, ◌≡◌, List, [], ◌∷◌, ◌++◌, length, take, drop}
use Rattle.error.specs.Refusal.{Told, yes, and_then}
use Rattle.addr.specs.Address.{address_rule}
use Rattle.unstuffing.specs.Unstuff.{byte_at, offset_at}
use Rattle.unstuffing.specs.Escapes.{Proper}
use Rattle.unstuffing.specs.Private.{kept}
use Rattle.checking.specs.declared.Head.{Head}
use Rattle.checking.specs.Rule.{head}

-- an interior whose checksum, two unstuffed bytes, starts at a place
pub record Ends (s : List ℕ) (at : ℕ) : Type 0 where
  pub inside : at ≤ length s
  pub body : Proper (take at s)
  pub sum : Proper (drop at s)
  pub two : kept (drop at s) ≡ 2

-- DEST, then SRC: of what precedes the checksum, which starts at a place, with the payload's length
unfoldable pub front_rule : ℕ → ℕ → List (ℕ × ℕ) → Told Head
front_rule len at us =
    and_then (address_rule (byte_at us 0))
    (λ dest. and_then (address_rule (byte_at us 1)) (λ src. yes (head dest src (byte_at us 2) len (offset_at (us ++ (0, at) ∷ []) 3 + 1) (at + 1))))
