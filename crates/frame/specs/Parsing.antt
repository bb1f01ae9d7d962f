-- Parsing in one call, as it was before request 9: the header was told, and the payload filled the front of the lent buffer.
-- No call does so any more; `open` and `copy_payload` are held to it (proofs/Pair).
use Rattle.std.specs.Prelude.{◌≡◌, List, ℕ, length}
use Rattle.error.specs.Refusal.{Told, on_yes, filled}
use Rattle.frame.specs.declared.RawFrame.{RawFrame}
use Rattle.frame.specs.Rule.{parse_rule, header_of, payload_told}

-- told is what was told of a wire with a buffer that held old, and new what it held then
pub record Parsing (wire old : List ℕ) (told : Told RawFrame) (new : List ℕ) : Type 0 where
  pub reply : told ≡ on_yes header_of (parse_rule wire (length old))
  pub bytes : new ≡ filled (payload_told (parse_rule wire (length old))) old
