-- Document 01, 'Frames to prove or run': the wires (a) to (g), computed from the rules that contracts of `frame` cite.
-- What is written, and what is copied, stands for each buffer that has room for it.
use mathlib.Core.Path.{◌≡◌, refl, ap, ◌∙◌}
use mathlib.Core.List.{List, [], ◌∷◌}
use Prim.Native.Nat.{ℕ, ◌≤◌}
use native.Mathlib.Omega.{arith}
use lib.ListN.{length}
use Rattle.error.specs.Refusal.{yes, no}
use Rattle.addr.specs.declared.BusAddr.TheVariants.{App, Dsp}
use Rattle.addr.specs.Address.{address_rule}
use Rattle.stuffing.specs.Stuff.{escape_of, unescape_of, stuff_byte, sum16}
use Rattle.unstuffing.specs.Unstuff.{escape_by, step_by}
use Rattle.encoding.proofs.Cases.{encode-fits}
use Rattle.frame.specs.Wire.{Fields, fields, body_of, checksum_of, wire_of}
use Rattle.frame.specs.Rule.{addresses_rule, sum_rule, units_rule, check_rule, header_of, open_rule, copy_rule, encode_rule}
use Rattle.frame.proofs.Cases.{opens, copies, refused-alike}

-- DEST 40, SRC 10, TYPE 01
abbrev to-dsp : List ℕ → Fields
to-dsp payload = fields Dsp App 0x01 payload

-- encoding a payload writes a wire, in each buffer that has room for it
abbrev Writes : List ℕ → List ℕ → Type 0
Writes payload wire = (room : ℕ) → length wire ≤ room → encode_rule (to-dsp payload) room ≡ yes wire

-- a wire opens to the header of a payload, and copies to that
abbrev Parses : List ℕ → List ℕ → Type 0
Parses wire payload = (open_rule wire ≡ yes (header_of (to-dsp payload))) × ((room : ℕ) → length payload ≤ room → copy_rule wire room ≡ yes payload)

-- neither, whatever the room
abbrev Refuses : List ℕ → ℕ → List ℕ → Type 0
Refuses wire k vs = (room : ℕ) → (open_rule wire ≡ no k vs) × (copy_rule wire room ≡ no k vs)

pub record Frames : Type 0 where
  pub a : Parses (0xF0 ∷ 0x40 ∷ 0x10 ∷ 0x01 ∷ 0x00 ∷ 0x51 ∷ 0xF1 ∷ []) []
  pub b : Writes (0xF0 ∷ []) (0xF0 ∷ 0x40 ∷ 0x10 ∷ 0x01 ∷ 0xFD ∷ 0x01 ∷ 0x01 ∷ 0x4F ∷ 0xF1 ∷ [])
  pub c : Writes (0x9F ∷ []) (0xF0 ∷ 0x40 ∷ 0x10 ∷ 0x01 ∷ 0x9F ∷ 0x00 ∷ 0xFD ∷ 0x01 ∷ 0xF1 ∷ [])
  pub d : Parses (0xF0 ∷ 0x40 ∷ 0x10 ∷ 0x01 ∷ 0xFA ∷ 0x01 ∷ 0x4B ∷ 0xF1 ∷ []) (0xFA ∷ [])
  pub e : Writes (0xFA ∷ []) (0xF0 ∷ 0x40 ∷ 0x10 ∷ 0x01 ∷ 0xFD ∷ 0x04 ∷ 0x01 ∷ 0x52 ∷ 0xF1 ∷ [])
  pub f : Refuses (0xF0 ∷ 0x40 ∷ 0x10 ∷ 0x01 ∷ 0x00 ∷ 0xFD ∷ 0xF1 ∷ []) 12 (4 ∷ [])
  pub g : Refuses (0xF0 ∷ 0xFD ∷ 0x01 ∷ 0x40 ∷ 0x10 ∷ 0x01 ∷ 0xF1 ∷ []) 1 (7 ∷ [])

writes : (payload wire : List ℕ) → length payload ≤ 65535 → wire_of (to-dsp payload) ≡ wire → Writes payload wire
writes payload wire h e room g = encode-fits (to-dsp payload) room h (rw e g) ∙ ap yes e

parses : (wire payload : List ℕ) → check_rule wire ≡ yes (to-dsp payload) → Parses wire payload
parses wire payload e = (opens wire (to-dsp payload) e, λ room l. copies wire room (to-dsp payload) e l)

pub examples-frames : Frames
unfolding check_rule units_rule sum_rule addresses_rule address_rule step_by escape_by unescape_of sum16 wire_of checksum_of body_of stuff_byte escape_of
examples-frames =
    record {
      a = parses _ _ refl;
      b = writes _ _ (omega arith) refl;
      c = writes _ _ (omega arith) refl;
      d = parses _ _ refl;
      e = writes _ _ (omega arith) refl;
      f = λ room. refused-alike _ room 12 (4 ∷ []) refl;
      g = λ room. refused-alike _ room 1 (7 ∷ []) refl;
    }
