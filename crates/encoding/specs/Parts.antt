-- Only private contracts cite this, and a client may skip it: the fields that a frame's parts are.
-- The head is the three bytes in front of the payload.
use Rattle.std.specs.Prelude.{ℕ, List, [], ◌∷◌}
use Rattle.addr.specs.Address.{byte_of}
use Rattle.encoding.specs.Wire.{Fields, fields}
use Rattle.encoding.specs.declared.parts.Parts.{Parts}

abbrev pub fields_of : Parts → Fields
fields_of parts = fields parts.dest parts.src parts.type_id parts.payload.now

abbrev pub head_of : Fields → List ℕ
head_of f = byte_of f.dest ∷ byte_of f.src ∷ f.type ∷ []
