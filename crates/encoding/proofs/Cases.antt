-- Which case of the rule holds after which tests.
-- One law for each return of `encode`.
use Rattle.std.proofs.Common.{◌≡◌, ℕ, ◌<◌, ◌≤◌, [], ◌∷◌, length, le-ltb, lt-ltb}
use Rattle.error.specs.Refusal.{yes, no}
use Rattle.encoding.specs.Wire.{Fields, wire_of}
use Rattle.encoding.specs.Encode.{encode_rule}

module _ (f : Fields) (room : ℕ) where
  pub encode-long : 65535 < length f.payload → encode_rule f room ≡ no 10 (length f.payload ∷ [])
  unfolding encode_rule
  encode-long h = simp (lt-ltb _ _ h)

  pub encode-room : length f.payload ≤ 65535 → room < length (wire_of f) → encode_rule f room ≡ no 8 (length (wire_of f) ∷ room ∷ [])
  unfolding encode_rule
  encode-room h g = simp (le-ltb _ _ h, lt-ltb _ _ g)

  pub encode-fits : length f.payload ≤ 65535 → length (wire_of f) ≤ room → encode_rule f room ≡ yes (wire_of f)
  unfolding encode_rule
  encode-fits h g = simp (le-ltb _ _ h, le-ltb _ _ g)
