-- Request 9: `open` and `copy_payload` are parsing in two, by their contracts as the check reads them off src/ (`Post`).
-- The second alone, and both together, are held to `Parsing`, what one call did; what copying tells follows from what opening told.
use mathlib.Core.Path.{◌≡◌, refl, sym, ap, ◌∙◌}
use mathlib.Core.List.{List, [], ◌∷◌, ◌++◌}
use Prim.Native.Nat.{ℕ, ◌≤◌}
use native.Mathlib.Omega.{arith}
use lib.Dec.{ltb}
use lib.ListN.{length, drop}
use Rattle.general.proofs.Cases.{by-test}
use Rattle.error.specs.Refusal.{Told, yes, no, on_yes, and_then, filled}
use Rattle.error.proofs.Tells.{part-of-part, part-refused}
use Rattle.error.specs.Result.{told}
use Rattle.checking.proofs.Checked.{Checked, taken, checked}
use Rattle.checking.proofs.Wrong.{never-8}
use Rattle.frame.specs.declared.RawFrame.{RawFrame}
use Rattle.frame.specs.Wire.{Fields}
use Rattle.frame.specs.Rule.{check_rule, room_by, room_rule, parse_rule, header_of, open_rule, payload_told}
use Rattle.frame.specs.Parsing.{Parsing}
use Rattle.frame.proofs.Cases.{copies}
use Rattle.frame.proofs.RawFrame.open.Reads as opening
use Rattle.frame.proofs.RawFrame.copy_payload.Reads as copying

-- ---- "the first never gives NoRoom"

pub open-never-8 : (κs a r x : _) → opening.Post κs a r x → (vs : List ℕ) → told r ≡ no 8 vs → ⊥
open-never-8 κs a r x p vs e = never-8 a.0.now vs (part-refused header_of (check_rule a.0.now) 8 vs (sym p ∙ e))

-- ---- opening is checking: the same refusal, or the header of the fields

pub open-is-checking : (κs a r x : _) → opening.Post κs a r x → told r ≡ on_yes header_of (check_rule a.0.now)
open-is-checking κs a r x p = p

-- ---- whatever opens has passed every test of a wire: its escapes to the last, its checksum, its addresses

pub record Opened (w : List ℕ) (h : RawFrame) : Type 0 where
  pub value : Fields
  pub passed : Checked w value
  pub header : h ≡ header_of value

opened-if : (w : List ℕ) (h : RawFrame) (t : Told Fields) → check_rule w ≡ t → on_yes header_of t ≡ yes h → Opened w h
opened-if w h (yes f) e q = record { value = f; passed = checked w f e; header = cc }
opened-if w h (no k vs) e q = let z : ◌≡◌ {A = ℕ} 0 1 = cc in absurd (let y : ⊥ = omega arith in y)

pub open-checks : (κs a r x : _) → opening.Post κs a r x → (h : RawFrame) → told r ≡ yes h → Opened a.0.now h
open-checks κs a r x p h e = opened-if a.0.now h (check_rule a.0.now) refl (sym p ∙ e)

-- ---- "The second without the header is today's parsing in refusals, order and buffer"

abbrev length_of : RawFrame → ℕ
length_of h = h.len

-- of a frame that was told, its payload's length
length-told : (t : Told Fields) → on_yes length (payload_told t) ≡ on_yes length_of (on_yes header_of t)
length-told t = part-of-part (λ f. f.payload) length t ∙ sym (part-of-part header_of length_of t)

pub copy-is-parsing : (κs a r x : _) → copying.Post κs a r x → {answer : Told RawFrame} {new : List ℕ} → Parsing a.0.now a.1.0.now answer new
    → (told r ≡ on_yes (λ h. h.len) answer) × (x.1.0.now ≡ new)
copy-is-parsing κs a r x p q =
    let t = parse_rule a.0.now (length a.1.0.now) in
    (p.0 ∙ length-told t ∙ ap (on_yes length_of) (sym q.reply), p.1 ∙ sym q.bytes)

-- ---- what copying tells, by what opening told: the same refusal; else 8, or the length

-- the room is tested by the length in the header
by-header : (room : ℕ) (t : Told Fields) → on_yes header_of (and_then t (room_rule room)) ≡ and_then (on_yes header_of t) (room_by length_of room)
by-header room (yes f) = by-test (ltb room (length f.payload)) (λ e. rw e) (λ e. rw e)
by-header room (no k vs) = refl

parsed-by-opened : (κs a r x : _) → opening.Post κs a r x → (w : List ℕ) → a.0.now ≡ w → (room : ℕ)
    → on_yes header_of (parse_rule w room) ≡ and_then (told r) (room_by length_of room)
unfolding parse_rule
parsed-by-opened κs a r x o w e room =
    by-header room (check_rule w) ∙ ap (λ (t : Told RawFrame). and_then t (room_by length_of room)) (sym (o ∙ ap open_rule e))

pub copied-by-opened : (κs a r x : _) → opening.Post κs a r x → (κs' b s y : _) → copying.Post κs' b s y → a.0.now ≡ b.0.now
    → told s ≡ on_yes (λ h. h.len) (and_then (told r) (room_by (λ h. h.len) (length b.1.0.now)))
copied-by-opened κs a r x o κs' b s y c e =
    let room = length b.1.0.now in
    c.0 ∙ length-told (parse_rule b.0.now room) ∙ ap (on_yes length_of) (parsed-by-opened κs a r x o b.0.now e room)

-- ---- both together are parsing: the header, where the payload was copied

with-header : (room : ℕ) (t : Told RawFrame) (u : Told ℕ) → u ≡ on_yes length_of (and_then t (room_by length_of room))
    → and_then t (room_by length_of room) ≡ and_then t (λ h. on_yes (λ n. h) u)
with-header room (yes h) u e =
    by-test (ltb room h.len)
    (λ b. let z : u ≡ no 8 (h.len ∷ room ∷ []) = rw b at e in rw (b, z))
    (λ b. let z : u ≡ yes h.len = rw b at e in rw (b, z))
with-header room (no k vs) u e = refl

pub pair-is-parsing : (κs a r x : _) → opening.Post κs a r x → (κs' b s y : _) → copying.Post κs' b s y → a.0.now ≡ b.0.now
    → {answer : Told RawFrame} {new : List ℕ} → Parsing b.0.now b.1.0.now answer new
    → (answer ≡ and_then (told r) (λ h. on_yes (λ n. h) (told s))) × (y.1.0.now ≡ new)
pair-is-parsing κs a r x o κs' b s y c e q =
    let room = length b.1.0.now in
    let copied = copied-by-opened κs a r x o κs' b s y c e in (
      q.reply ∙ parsed-by-opened κs a r x o b.0.now e room ∙ with-header room (told r) (told s) copied,
      c.1 ∙ sym q.bytes,
    )

-- ---- whatever is opened is copied, given room

-- the payload of what opened at the front of a buffer, as long as its header says
pub record Copied (w : List ℕ) (h : RawFrame) (old new : List ℕ) (told : Told ℕ) : Type 0 where
  pub opened : Opened w h
  pub reply : told ≡ yes h.len
  pub bytes : new ≡ opened.value.payload ++ drop h.len old

pub opened-copies : (κs a r x : _) → opening.Post κs a r x → (κs' b s y : _) → copying.Post κs' b s y → a.0.now ≡ b.0.now
    → (h : RawFrame) → told r ≡ yes h → h.len ≤ length b.1.0.now
    → Copied b.0.now h b.1.0.now y.1.0.now (told s)
opened-copies κs a r x o κs' b s y c w h e l =
    let from = opened-if b.0.now h (check_rule b.0.now) refl (sym (o ∙ ap open_rule w) ∙ e) in
    let n = ap (λ (k : RawFrame). k.len) from.header in
    let p = copies b.0.now (length b.1.0.now) from.value (taken from.passed) (rw n at l) in
    record {
      opened = from;
      reply = c.0 ∙ ap (on_yes length) p ∙ ap yes (sym n);
      bytes = c.1 ∙ ap (λ (u : Told (List ℕ)). filled u b.1.0.now) p ∙ ap (λ (k : ℕ). from.value.payload ++ drop k b.1.0.now) (sym n);
    }
