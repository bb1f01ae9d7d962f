-- Document 01, 'Frames', and request 9: what a wire opens to, and what is copied of it; the tests of a wire are `checking`'s and
-- encoding's rule is `encoding`'s. A refusal is its number and values; a refused call writes nothing (`filled`).
use Rattle.std.specs.Prelude.{ℕ, cond, List, [], ◌∷◌, ltb, length}
use Rattle.error.specs.Refusal.{Told, yes, no, on_yes, and_then}
use Rattle.addr.specs.declared.BusAddr.{BusAddr}
use Rattle.encoding.specs.Wire.{Fields}
use Rattle.frame.specs.declared.RawFrame.{RawFrame}
unfoldable pub use Rattle.encoding.specs.Encode.{encode_rule}
pub use Rattle.checking.specs.Rule.{interior, received_of, computed_of, payload_of}
unfoldable pub use Rattle.checking.specs.Rule.{addresses_rule, sum_rule, units_rule, check_rule}

-- what is longer than the lent buffer (8), by its length
abbrev pub room_by : {A : Type 0} → (A → ℕ) → ℕ → A → Told A
room_by size room a = cond (ltb room (size a)) (no 8 (size a ∷ room ∷ [])) (yes a)

-- payload longer than the lent buffer (8)
abbrev pub room_rule : ℕ → Fields → Told Fields
room_rule room f = room_by (λ g. length g.payload) room f

-- all of parsing's tests: the Rust's parsing, with room
unfoldable pub parse_rule : List ℕ → ℕ → Told Fields
parse_rule wire room = and_then (check_rule wire) (room_rule room)

-- a frame as it is answered: its header, and its payload's length
abbrev pub raw_frame : BusAddr → BusAddr → ℕ → ℕ → RawFrame
raw_frame dest src type len = record { dest = dest; src = src; type_id = type; len = len }

abbrev pub header_of : Fields → RawFrame
header_of f = raw_frame f.dest f.src f.type (length f.payload)

-- ---- request 9: parsing in two

-- "one operation checks a wire and answers the header and the length"
abbrev pub open_rule : List ℕ → Told RawFrame
open_rule wire = on_yes header_of (check_rule wire)

-- the payload of what was told
abbrev pub payload_told : Told Fields → Told (List ℕ)
payload_told t = on_yes (λ (f : Fields). f.payload) t

-- "the other copies the payload of a wire into a lent buffer, making the same checks first"
abbrev pub copy_rule : List ℕ → ℕ → Told (List ℕ)
copy_rule wire room = payload_told (parse_rule wire room)
