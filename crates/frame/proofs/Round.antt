-- A frame's wire opens to its header and copies to its payload, in any room that the payload fits; so does what encoding wrote.
-- `open-back` and `copy-back` are that law, stated by the rules that the contracts cite.
use mathlib.Core.Path.{◌≡◌, refl, sym, ap, ◌∙◌}
use mathlib.Core.List.{List, [], ◌∷◌, ◌++◌}
use Prim.Native.Nat.{ℕ, ◌+◌, ◌-◌, ◌*◌, ◌/◌, ◌%◌, ◌≤◌}
use native.Mathlib.Nat.{zero-add}
use native.Mathlib.Omega.{arith}
use lib.ListN.{length, take, drop, get_or, length-append, get_or-map}
use lib.Seq.{take_at, get_or_at, get_or-append-add}
use Rattle.error.specs.Refusal.{Told, yes, and_then}
use Rattle.addr.proofs.Back.{address-back}
use Rattle.stuffing.specs.Stuff.{stuff, sum16}
use Rattle.unstuffing.specs.Unstuff.{unstuff, byte_at, offset_at}
use Rattle.stuffing.proofs.Stuffing.{stuff-append, stuff-least}
use Rattle.unstuffing.proofs.Unstuffing.{placed, unstuff-stuff, bytes-placed, length-placed, offset-placed}
use Rattle.frame.specs.Wire.{Fields, fields, body_of, checksum_of, wire_of}
use Rattle.frame.specs.Rule.{encode_rule, interior, received_of, computed_of, payload_of, units_rule, check_rule, header_of, open_rule, copy_rule}
use Rattle.checking.proofs.Cases.{framed, many, matching, both-known}
use Rattle.frame.proofs.Cases.{opens, copies}
use Rattle.frame.proofs.Wires.{head, text, wire-is, written_is}

interior-is : (m : List ℕ) → interior (0xF0 ∷ (m ++ (0xF1 ∷ []))) ≡ m
interior-is m = take_at m (0xF1 ∷ []) (length (0xF0 ∷ (m ++ (0xF1 ∷ []))) - 2) (omega (arith, length-append m (0xF1 ∷ [])))

last-is : (m : List ℕ) → get_or (0xF0 ∷ (m ++ (0xF1 ∷ []))) (length (0xF0 ∷ (m ++ (0xF1 ∷ []))) - 1) 0 ≡ 0xF1
last-is m = get_or_at (0xF0 ∷ m) 0xF1 [] 0 (length (0xF0 ∷ (m ++ (0xF1 ∷ []))) - 1) (omega (arith, length-append m (0xF1 ∷ [])))

module _ (f : Fields) where
  abbrev cs : List ℕ
  cs = checksum_of f / 256 ∷ checksum_of f % 256 ∷ []

  abbrev us : List (ℕ × ℕ)
  us = placed 0 (text f)

  length-us : length us ≡ length (head f) + 2
  length-us = omega (arith, length-placed 0 (text f), length-append (head f) cs)

  byte-at : (k n : ℕ) → k ≡ length (head f) + n → byte_at us k ≡ get_or cs n 0
  byte-at k n e =
      sym (get_or-map (λ (u : ℕ × ℕ). u.0) us k (0, 0)) ∙ ap (λ (l : List ℕ). get_or l k 0) (bytes-placed 0 (text f))
      ∙ ap (λ (j : ℕ). get_or (text f) j 0) e ∙ get_or-append-add (head f) cs n 0

  received : received_of us ≡ checksum_of f / 256 * 256 + checksum_of f % 256
  received =
      rw (byte-at (length us - 2) 0 (omega (arith, length-us)), byte-at (length us - 1) 1 (omega (arith, length-us))) refl

  computed : computed_of (stuff (text f)) us ≡ checksum_of f
  unfolding checksum_of body_of
  computed =
      let k : length us - 2 ≡ length (head f) = omega (arith, length-us) in
      let o : offset_at us (length (head f)) ≡ length (stuff (head f)) =
      offset-placed 0 (head f) (checksum_of f / 256) (checksum_of f % 256 ∷ []) ∙ zero-add (length (stuff (head f))) in
      rw (k, o, stuff-append (head f) cs) (ap sum16 (take_at (stuff (head f)) (stuff cs) (length (stuff (head f))) refl))

  payload-is : payload_of us ≡ f.payload
  payload-is =
      let n : length f.payload ≡ length us - 5 = omega (arith, length-us) in
      ap (λ (l : List ℕ). take (length us - 5) (drop 3 l)) (bytes-placed 0 (text f)) ∙ take_at f.payload cs (length us - 5) n

  units-checked : (n : ℕ) (inner : List ℕ) → inner ≡ stuff (text f) → units_rule n inner us ≡ yes f
  units-checked n inner e =
      let sums : received_of us ≡ computed_of inner us = received ∙ omega arith ∙ sym computed ∙ ap (λ (m : List ℕ). computed_of m us) (sym e) in
      many us inner n (omega (arith, length-us))
      ∙ matching us inner sums
      ∙ both-known us f.dest f.src (address-back f.dest) (address-back f.src)
      ∙ ap (λ (p : List ℕ). yes (fields f.dest f.src f.type p)) payload-is

  pub wire-checked : check_rule (wire_of f) ≡ yes f
  wire-checked =
      let m = stuff (text f) in
      let w : List ℕ = 0xF0 ∷ (m ++ (0xF1 ∷ [])) in
      let long : 7 ≤ length w = omega (arith, length-us, length-placed 0 (text f), stuff-least (text f), length-append m (0xF1 ∷ [])) in
      ap check_rule (wire-is f)
      ∙ framed w long refl (last-is m)
      ∙ ap (λ (x : Told (List (ℕ × ℕ))). and_then x (units_rule (length w) (interior w))) (ap (unstuff 0) (interior-is m) ∙ unstuff-stuff 0 (text f))
      ∙ units-checked (length w) (interior w) (interior-is m)

  -- encode, then open
  pub open-back : {w : List ℕ} (room_out : ℕ) → encode_rule f room_out ≡ yes w → open_rule w ≡ yes (header_of f)
  open-back room_out e = rw (written_is f room_out e) (opens (wire_of f) f wire-checked)

  -- encode, then copy
  pub copy-back : {w : List ℕ} (room_out room_in : ℕ) → encode_rule f room_out ≡ yes w → length f.payload ≤ room_in → copy_rule w room_in ≡ yes f.payload
  copy-back room_out room_in e h = rw (written_is f room_out e) (copies (wire_of f) room_in f wire-checked h)
