-- A wire is F0, an interior that has no F0 and no F1, and F1; what encoding answers is the fields' wire.
-- So its end is the first F1 behind its start.
use mathlib.Core.Path.{◌≡◌, refl, sym, ap, ◌∙◌}
use mathlib.Core.Bool.{false, cond}
use mathlib.Core.List.{List, [], ◌∷◌, ◌++◌, append_assoc}
use Prim.Native.Nat.{ℕ, ◌/◌, ◌%◌}
use lib.Dec.{ltb}
use lib.ListN.{length}
use Rattle.error.specs.Refusal.{Told, yes, no}
use Rattle.error.proofs.Tells.{test-passed}
use Rattle.addr.specs.Address.{byte_of}
use Rattle.stuffing.specs.Stuff.{stuff}
use Rattle.search.specs.First.{has}
use Rattle.stuffing.proofs.Stuffing.{stuff-append, no-F0, no-F1}
use Rattle.frame.specs.Wire.{Fields, body_of, checksum_of, wire_of}
use Rattle.frame.specs.Rule.{encode_rule}

-- DEST SRC TYPE PAYLOAD, and all that is stuffed
abbrev pub head : Fields → List ℕ
head f = byte_of f.dest ∷ byte_of f.src ∷ f.type ∷ f.payload

abbrev pub text : Fields → List ℕ
text f = head f ++ (checksum_of f / 256 ∷ checksum_of f % 256 ∷ [])

pub wire-is : (f : Fields) → wire_of f ≡ 0xF0 ∷ (stuff (text f) ++ (0xF1 ∷ []))
unfolding wire_of body_of
wire-is f =
    let cs : List ℕ = checksum_of f / 256 ∷ checksum_of f % 256 ∷ [] in
    ap (λ (x : List ℕ). 0xF0 ∷ x)
    (sym (append_assoc (stuff (head f)) (stuff cs) (0xF1 ∷ [])) ∙ ap (λ (x : List ℕ). x ++ (0xF1 ∷ [])) (sym (stuff-append (head f) cs)))

pub record Framed (w : List ℕ) : Type 0 where
  pub inner : List ℕ
  pub is : w ≡ 0xF0 ∷ (inner ++ (0xF1 ∷ []))
  pub no_start : has 0xF0 inner ≡ false
  pub no_end : has 0xF1 inner ≡ false

pub wire-framed : (f : Fields) → Framed (wire_of f)
wire-framed f = record { inner = stuff (text f); is = wire-is f; no_start = no-F0 (text f); no_end = no-F1 (text f) }

pub written_is : (f : Fields) (room : ℕ) {w : List ℕ} → encode_rule f room ≡ yes w → w ≡ wire_of f
unfolding encode_rule
written_is f room {w} e =
    let n = length (wire_of f) in
    let y : Told (List ℕ) = cond (ltb room n) (no 8 (n ∷ room ∷ [])) (yes (wire_of f)) in
    let long = test-passed (ltb 65535 (length f.payload)) 10 (length f.payload ∷ []) y (yes w) refl e in
    let z : yes (wire_of f) ≡ yes w = (test-passed (ltb room n) 8 (n ∷ room ∷ []) (yes (wire_of f)) (yes w) refl long.1).1 in
    cc
