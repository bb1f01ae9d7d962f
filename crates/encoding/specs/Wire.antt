-- Document 01, 'Frames': a wire is F0, stuffed(DEST SRC TYPE PAYLOAD CS_HI CS_LO), F1.
-- `wire_of` is the wire of a frame's fields; its checksum `checksum_of` adds the stuffed bytes before it.
use Rattle.std.specs.Prelude.{ℕ, ◌/◌, ◌%◌, List, [], ◌∷◌, ◌++◌}
use Rattle.addr.specs.declared.BusAddr.{BusAddr}
use Rattle.addr.specs.Address.{byte_of}
use Rattle.stuffing.specs.Stuff.{stuff, sum16}

pub record Fields : Type 0 where
  pub dest : BusAddr
  pub src : BusAddr
  pub type : ℕ
  pub payload : List ℕ

abbrev pub fields : BusAddr → BusAddr → ℕ → List ℕ → Fields
fields dest src type payload = record { dest = dest; src = src; type = type; payload = payload }

unfoldable pub body_of : Fields → List ℕ
body_of f = stuff (byte_of f.dest ∷ byte_of f.src ∷ f.type ∷ f.payload)

unfoldable pub checksum_of : Fields → ℕ
checksum_of f = sum16 (body_of f)

unfoldable pub wire_of : Fields → List ℕ
wire_of f = 0xF0 ∷ (body_of f ++ (stuff (checksum_of f / 256 ∷ checksum_of f % 256 ∷ []) ++ (0xF1 ∷ [])))
