-- How a frame passes to C: an address is its byte, a header is four words.
-- An address byte that is none is refused before the frame is encoded.
use Rattle.std.specs.Prelude.{ℕ, List, [], ◌∷◌}
use Rattle.error.specs.Refusal.{Told, and_then}
use Rattle.addr.specs.Address.{byte_of, address_rule}
use Rattle.frame.specs.declared.RawFrame.{RawFrame}
use Rattle.frame.specs.Wire.{fields}
use Rattle.frame.specs.Rule.{encode_rule}

-- a header: DEST, SRC, TYPE and the payload's length
abbrev pub words_of : RawFrame → List ℕ
words_of f = byte_of f.dest ∷ byte_of f.src ∷ f.type_id ∷ f.len ∷ []

-- the wire of a frame; DEST is tested, then SRC (6)
abbrev pub encoded_of : ℕ → ℕ → ℕ → List ℕ → ℕ → Told (List ℕ)
encoded_of dest src type payload room =
    and_then (address_rule dest) (λ d. and_then (address_rule src) (λ s. encode_rule (fields d s type payload) room))
