-- What parsing takes is what checking takes, with room for the payload, which a buffer as long as the wire has (`room-of-wire`).
-- `Held` is what a head that was answered tells of the fields behind it: where it says that the payload lies, it stands.
use mathlib.Core.Path.{◌≡◌, refl, sym, ap, ◌∙◌, subst}
use mathlib.Core.List.{List, [], ◌∷◌}
use Prim.Native.Nat.{ℕ, ◌-◌, ◌≤◌, ◌<◌}
use native.Mathlib.Omega.{arith}
use lib.Dec.{ltb}
use lib.ListN.{length, take, drop, length-map, length-take}
use borrow.Author.Tests.{ltb-false}
use Rattle.error.specs.Refusal.{Told, yes, no, on_yes}
use Rattle.error.proofs.Tells.{test-passed}
use Rattle.unstuffing.specs.Unstuff.{unit_bytes}
use Rattle.unstuffing.specs.Private.{kept}
use Rattle.unstuffing.proofs.Proper.{units, unstuff-proper, length-units, kept-most}
use Rattle.checking.specs.declared.Head.{Head}
use Rattle.checking.specs.Rule.{head_of}
use Rattle.checking.proofs.Checked.{Checked, checked, got}
use Rattle.checking.proofs.Located.{Located, located}
use Rattle.frame.specs.Wire.{Fields}
use Rattle.frame.specs.Rule.{check_rule, room_rule, parse_rule, payload_told, copy_rule}
use Rattle.frame.specs.Private.{raw, slots}
use Rattle.frame.proofs.Cases.{parse-refused, parse-room, parse-fits}
use Rattle.frame.proofs.Walking.{raw-proper, slots-proper}

pub parsed : (w : List ℕ) (room : ℕ) (f : Fields) → parse_rule w room ≡ yes f → (Checked w f) × (length f.payload ≤ room)
unfolding parse_rule
parsed w room f e =
    let c = got (check_rule w) (room_rule room) f e in
    let r = test-passed (ltb room (length c.value.payload)) 8 (length c.value.payload ∷ room ∷ []) (yes c.value) (yes f) refl c.then in
    let z : c.value ≡ f = (let q = r.1 in cc) in
    (checked w f (c.is ∙ ap yes z), rw (ap (λ (q : Fields). length q.payload) z) at (ltb-false room (length c.value.payload) r.0))

-- ---- a head that was answered, and the fields behind it

-- its payload's stuffed bytes
abbrev pub part_of : List ℕ → Head → List ℕ
part_of w h = take (h.to - h.from) (drop h.from w)

pub record Held (w : List ℕ) (h : Head) : Type 0 where
  pub value : Fields
  pub is : check_rule w ≡ yes value
  pub told : h ≡ head_of w value
  pub len : h.len ≡ length value.payload
  pub ordered : h.from ≤ h.to
  pub inside : h.to ≤ length w
  pub count : kept (part_of w h) ≡ length value.payload
  pub touched : slots (part_of w h) ≡ length value.payload
  pub bytes : raw 0 (part_of w h) ≡ value.payload

-- of a wire that passes
held_by : (w : List ℕ) (f : Fields) → check_rule w ≡ yes f → Located w f → Held w (head_of w f)
held_by w f e l =
    let p = l.proper in
    let q : yes (unit_bytes (units 0 p)) ≡ yes f.payload = sym (ap (on_yes unit_bytes) (unstuff-proper 0 p)) ∙ l.bytes in
    let b : unit_bytes (units 0 p) ≡ f.payload = cc in
    let n : kept (part_of w (head_of w f)) ≡ length f.payload = sym (length-units 0 p) ∙ sym (length-map (units 0 p) (λ (u : ℕ × ℕ). u.0)) ∙ ap length b in
    record {
      value = f;
      is = e;
      told = refl;
      len = refl;
      ordered = l.ordered;
      inside = l.inside;
      count = n;
      touched = slots-proper (part_of w (head_of w f)) p ∙ n;
      bytes = raw-proper 0 0 (λ q. omega arith) p ∙ b;
    }

held-yes : (t : Told Fields) (w : List ℕ) (h : Head) → check_rule w ≡ t → yes h ≡ on_yes (head_of w) t → Held w h
held-yes (yes f) w h e g =
    let q : head_of w f ≡ h = cc in
    subst (Held w) q (held_by w f e (located w f (checked w f e)))
held-yes (no k vs) w h e g = let z : ◌≡◌ {A = ℕ} 0 1 = cc in absurd (let q : ⊥ = omega arith in q)

pub held : (w : List ℕ) (h : Head) → yes h ≡ on_yes (head_of w) (check_rule w) → Held w h
held w h e = held-yes (check_rule w) w h refl e

-- what is told of a copy, by the head that was answered: its length where there is room, else 8
pub told_room : (w : List ℕ) (room : ℕ) (h : Head) → yes h ≡ on_yes (head_of w) (check_rule w) → h.len ≤ room → yes h.len ≡ on_yes length (copy_rule w room)
told_room w room h e l =
    let k = held w h e in
    rw (parse-fits w room k.value k.is (omega (arith, k.len))) (ap yes k.len)

pub told_cramped : (w : List ℕ) (room : ℕ) (h : Head) → yes h ≡ on_yes (head_of w) (check_rule w) → room < h.len
    → no 8 (h.len ∷ room ∷ []) ≡ on_yes length (copy_rule w room)
told_cramped w room h e l =
    let k = held w h e in
    let short : room < length k.value.payload = rw (← k.len) l in
    rw (parse-room w room k.value k.is short, ← k.len) refl

-- ---- a buffer as long as the wire has room for its payload

payload-within : (w : List ℕ) (f : Fields) → check_rule w ≡ yes f → length f.payload ≤ length w
payload-within w f e =
    let h = held_by w f e (located w f (checked w f e)) in
    let n = (head_of w f).to - (head_of w f).from in
    omega (arith, h.count, kept-most (part_of w (head_of w f)), length-take n (drop (head_of w f).from w), h.inside)

parsed-alike : (w : List ℕ) (room : ℕ) (t : Told Fields) → check_rule w ≡ t → length w ≤ room → parse_rule w room ≡ t
parsed-alike w room (yes f) e l = parse-fits w room f e (omega (arith, payload-within w f e))
parsed-alike w room (no k vs) e l = parse-refused w room k vs e

pub room-of-wire : (w : List ℕ) (room : ℕ) → length w ≤ room → parse_rule w room ≡ check_rule w
room-of-wire w room l = parsed-alike w room (check_rule w) refl l

-- ---- the length that is told of a copy is within the buffer, so that its front may be taken

within-if : (w : List ℕ) (room n : ℕ) (t : Told Fields) → parse_rule w room ≡ t → yes n ≡ on_yes length (payload_told t) → n ≤ room
within-if w room n (yes f) e q =
    let z : length f.payload ≡ n = cc in
    rw z at (parsed w room f e).1
within-if w room n (no k vs) e q = let z : ◌≡◌ {A = ℕ} 0 1 = cc in absurd (let y : ⊥ = omega arith in y)

pub copied-within : (w : List ℕ) (room n : ℕ) → yes n ≡ on_yes length (copy_rule w room) → n ≤ room
copied-within w room n e = within-if w room n (parse_rule w room) refl e
