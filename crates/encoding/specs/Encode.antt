-- Document 01, 'Frames': what encoding answers, test by test in the order given there.
-- A refusal is its number and values; a refused call writes nothing (`filled`).
use Rattle.std.specs.Prelude.{ℕ, cond, List, [], ◌∷◌, length, nat_lt}
use Rattle.error.specs.Refusal.{Told, yes, no}
use Rattle.encoding.specs.Wire.{Fields, wire_of}

-- payload above 65,535 bytes (10), then room for the whole wire (8)
unfoldable pub encode_rule : Fields → ℕ → Told (List ℕ)
encode_rule f room =
    cond (nat_lt 65535 (length f.payload)) (no 10 (length f.payload ∷ []))
    (cond (nat_lt room (length (wire_of f))) (no 8 (length (wire_of f) ∷ room ∷ []))
    (yes (wire_of f)))
