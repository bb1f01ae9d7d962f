-- The payload of a wire that passes stands between the two places that are told, and unstuffs to the payload by itself.
-- So a caller may copy it from there, and need not read the header again.
use mathlib.Core.Path.{◌≡◌, refl, sym, ap, ◌∙◌}
use mathlib.Core.List.{List, [], ◌∷◌}
use Prim.Native.Nat.{ℕ, zero, suc, ◌+◌, ◌-◌, ◌≤◌, ◌<◌}
use native.Mathlib.Nat.{add-zero}
use native.Mathlib.Omega.{arith}
use lib.ListN.{length, take, drop, get_or, length-drop}
use lib.Seq.{take-nil, drop-drop, take-take, get_or-drop, length-take-le}
use Rattle.error.specs.Refusal.{Told, yes, on_yes}
use Rattle.stuffing.specs.Stuff.{unescape_of}
use Rattle.unstuffing.specs.Unstuff.{unstuff, offset_at, unit_bytes}
use Rattle.unstuffing.specs.Escapes.{Proper, none, byte, escape}
use Rattle.unstuffing.proofs.Proper.{units, unstuff-proper, proper-of}
use Rattle.encoding.specs.Wire.{Fields}
use Rattle.checking.specs.Rule.{interior, payload_of, units_of, head_of}
use Rattle.checking.proofs.Checked.{Checked}

pub record Located (w : List ℕ) (f : Fields) : Type 0 where
  pub ordered : (head_of w f).from ≤ (head_of w f).to
  pub inside : (head_of w f).to ≤ length w
  pub proper : Proper (take ((head_of w f).to - (head_of w f).from) (drop (head_of w f).from w))
  pub bytes : on_yes unit_bytes (unstuff 0 (take ((head_of w f).to - (head_of w f).from) (drop (head_of w f).from w))) ≡ yes f.payload

-- ---- a proper string, cut behind so many unstuffed bytes

record Cut (i : ℕ) {s : List ℕ} (p : Proper s) (k : ℕ) : Type 0 where
  pub at : ℕ
  pub inside : at ≤ length s
  pub left : Proper (take at s)
  pub right : Proper (drop at s)
  pub before : units i left ≡ take k (units i p)
  pub behind : units (i + at) right ≡ drop k (units i p)

cut : (i : ℕ) {s : List ℕ} (p : Proper s) (k : ℕ) → k ≤ length (units i p) → Cut i p k
unfolding units
cut i p zero h = record { at = 0; inside = omega arith; left = none; right = p; before = refl; behind = ap (λ (j : ℕ). units j p) (add-zero i) }
cut i none (suc k) h = absurd (let q : ⊥ = omega arith in q)
cut i (byte {b} {l} g p) (suc k) h =
    let c = cut (i + 1) p k (omega arith) in
    let n : i + suc c.at ≡ i + 1 + c.at = omega arith in
    record {
      at = suc c.at;
      inside = omega (arith, c.inside);
      left = byte g c.left;
      right = c.right;
      before = ap (λ (r : List (ℕ × ℕ)). (b, i) ∷ r) c.before;
      behind = ap (λ (j : ℕ). units j c.right) n ∙ c.behind;
    }
cut i (escape {b} {c = code} {l} e g p) (suc k) h =
    let c = cut (i + 2) p k (omega arith) in
    let n : i + suc (suc c.at) ≡ i + 2 + c.at = omega arith in
    record {
      at = suc (suc c.at);
      inside = omega (arith, c.inside);
      left = escape e g c.left;
      right = c.right;
      before = ap (λ (r : List (ℕ × ℕ)). (unescape_of code, i) ∷ r) c.before;
      behind = ap (λ (j : ℕ). units j c.right) n ∙ c.behind;
    }

-- what is left starts at the cut
first : (i : ℕ) {s : List ℕ} (p : Proper s) → 0 < length (units i p) → offset_at (units i p) 0 ≡ i
unfolding units
first i none h = absurd (let q : ⊥ = omega arith in q)
first i (byte g p) h = refl
first i (escape e g p) h = refl

starts : (i : ℕ) {s : List ℕ} (p : Proper s) (us : List (ℕ × ℕ)) (k : ℕ) → units i p ≡ drop k us → k < length us → offset_at us k ≡ i
starts i p us k e h =
    let u : get_or (drop k us) 0 (0, 0) ≡ get_or us k (0, 0) = get_or-drop k us 0 (0, 0) ∙ ap (λ (j : ℕ). get_or us j (0, 0)) (add-zero k) in
    ap (λ (v : ℕ × ℕ). v.1) (sym u) ∙ ap (λ (l : List (ℕ × ℕ)). offset_at l 0) (sym e) ∙ first i p (omega (arith, ap length e, length-drop k us))

-- its bytes, wherever it starts
bytes_same : (i j : ℕ) {s : List ℕ} (p : Proper s) → unit_bytes (units i p) ≡ unit_bytes (units j p)
unfolding units
bytes_same i j none = refl
bytes_same i j (byte {b} g p) = ap (λ (l : List ℕ). b ∷ l) (bytes_same (i + 1) (j + 1) p)
bytes_same i j (escape {c = code} e g p) = ap (λ (l : List ℕ). unescape_of code ∷ l) (bytes_same (i + 2) (j + 2) p)

-- ---- parts of lists

bytes-part : (j k : ℕ) (us : List (ℕ × ℕ)) → unit_bytes (take k (drop j us)) ≡ take k (drop j (unit_bytes us))
bytes-part (suc j) k [] = ap unit_bytes (take-nil k) ∙ sym (take-nil k)
bytes-part (suc j) k (u ∷ us) = bytes-part j k us
bytes-part zero zero us = refl
bytes-part zero (suc k) [] = refl
bytes-part zero (suc k) (u ∷ us) = ap (λ (l : List ℕ). u.0 ∷ l) (bytes-part zero k us)

part_of : (a b m : ℕ) (l : List ℕ) → a + b ≤ m → take b (drop a (take m l)) ≡ take b (drop a l)
part_of zero b m l h = take-take b m l (omega arith)
part_of (suc a) b zero l h = absurd (let q : ⊥ = omega arith in q)
part_of (suc a) b (suc m) [] h = refl
part_of (suc a) b (suc m) (x ∷ l) h = part_of a b m l (omega arith)

-- ---- the payload of a wire

module _ (w : List ℕ) (f : Fields) (c : Checked w f) where
  inner : Proper (interior w)
  inner = proper-of 0 (interior w) (rw c.escapes tt)

  abbrev us : List (ℕ × ℕ)
  us = units 0 inner

  us-is : c.us ≡ us
  us-is =
      let q : yes c.us ≡ yes us = sym c.escapes ∙ unstuff-proper 0 inner in
      cc

  five : 5 ≤ length us
  five = omega (arith, c.five, ap length us-is)

  -- behind the head, and behind the payload
  a : Cut 0 inner 3
  a = cut 0 inner 3 (omega (arith, five))

  b : Cut (0 + a.at) a.right (length us - 5)
  b = cut (0 + a.at) a.right (length us - 5) (omega (arith, five, ap length a.behind, length-drop 3 us))

  from_is : (head_of w f).from ≡ a.at + 1
  from_is =
      let s : offset_at us 3 ≡ 0 + a.at = starts (0 + a.at) a.right us 3 a.behind (omega (arith, five)) in
      ap (λ (t : Told (List (ℕ × ℕ))). offset_at (units_of t) 3 + 1) (unstuff-proper 0 inner) ∙ omega (arith, s)

  to_is : (head_of w f).to ≡ a.at + b.at + 1
  to_is =
      let k : 3 + (length us - 5) ≡ length us - 2 = omega (arith, five) in
      let r : units (0 + a.at + b.at) b.right ≡ drop (length us - 2) us =
      b.behind ∙ ap (drop (length us - 5)) a.behind ∙ drop-drop (length us - 5) 3 us ∙ ap (λ (j : ℕ). drop j us) k in
      let s : offset_at us (length us - 2) ≡ 0 + a.at + b.at = starts (0 + a.at + b.at) b.right us (length us - 2) r (omega (arith, five)) in
      ap (λ (t : Told (List (ℕ × ℕ))). offset_at (units_of t) (length (units_of t) - 2) + 1) (unstuff-proper 0 inner) ∙ omega (arith, s)

  ends : a.at + b.at ≤ length w - 2
  ends =
      let n : length (interior w) ≡ length w - 2 = length-take-le (length w - 2) (drop 1 w) (omega (arith, length-drop 1 w)) in
      omega (arith, a.inside, b.inside, length-drop a.at (interior w), n)

  part-is : take ((head_of w f).to - (head_of w f).from) (drop (head_of w f).from w) ≡ take b.at (drop a.at (interior w))
  part-is =
      let n : (head_of w f).to - (head_of w f).from ≡ b.at = omega (arith, from_is, to_is) in
      let m : (head_of w f).from ≡ 1 + a.at = omega (arith, from_is) in
      (λ i. take (n i) (drop (m i) w)) ∙ ap (take b.at) (sym (drop-drop a.at 1 w)) ∙ sym (part_of a.at b.at (length w - 2) (drop 1 w) ends)

  bytes-are : unit_bytes (units 0 b.left) ≡ f.payload
  bytes-are =
      bytes_same 0 (0 + a.at) b.left
      ∙ ap unit_bytes (b.before ∙ ap (take (length us - 5)) a.behind)
      ∙ bytes-part 3 (length us - 5) us
      ∙ ap payload_of (sym us-is)
      ∙ sym (ap (λ (g : Fields). g.payload) c.rest)

  pub located : Located w f
  located =
      record {
        ordered = omega (arith, from_is, to_is);
        inside = omega (arith, to_is, ends, c.enclosed.long);
        proper = rw part-is b.left;
        bytes = rw part-is (ap (on_yes unit_bytes) (unstuff-proper 0 b.left) ∙ ap yes bytes-are);
      }
