-- The trim, told apart from how it is made: what is cut away at either end are bytes below 20 hex, and no more is.
-- What is kept begins and ends with a byte of 20 hex or more, or is empty.
use Prim.Native.Nat.{ℕ, ◌+◌, ◌≤◌, ◌<◌}
use mathlib.Core.Path.{◌≡◌, refl, sym, ◌∙◌, ap, subst}
use mathlib.Core.List.{List, [], ◌∷◌, ◌++◌, append-nil, append_assoc, reverse, reverse-cons, reverse-append, reverse-reverse}
use native.Mathlib.Omega.{arith}
use lib.ListN.{length, take, drop, length-append, length-reverse}
use lib.Seq.{take-append_seam, drop-append_seam}
use borrow.Author.Tests.{lt-ltb, le-ltb}
use Rattle.general.proofs.Cases.{by-lt}
use Rattle.shot_text.specs.Trim.{cut_front, cut_back, text_of, text_start}

-- bytes below 20 hex, all of them
pub data Low : List ℕ → Type 0 where
  none : Low []
  more : {b : ℕ} {s : List ℕ} → b < 0x20 → Low s → Low (b ∷ s)

low-append : {a b : List ℕ} → Low a → Low b → Low (a ++ b)
low-append none m = m
low-append (more h l) m = more h (low-append l m)

low-reverse : {a : List ℕ} → Low a → Low (reverse a)
low-reverse none = none
low-reverse (more {b} {s} h l) = subst Low (sym (reverse-cons b s)) (low-append (low-reverse l) (more h none))

-- nothing, or a byte of 20 hex or more in front
pub data Starts : List ℕ → Type 0 where
  empty : Starts []
  with : {b : ℕ} {s : List ℕ} → 0x20 ≤ b → Starts (b ∷ s)

-- what the front's cut takes away, and what it leaves
pub record Cut (s : List ℕ) : Type 0 where
  pub front : List ℕ
  pub whole : s ≡ front ++ cut_front s
  pub low : Low front
  pub starts : Starts (cut_front s)

cut : (s : List ℕ) → Cut s
unfolding cut_front
cut [] = record { front = []; whole = refl; low = none; starts = empty }
cut (b ∷ s) =
    by-lt b 0x20
    (λ h.
    let r = cut s in
    record {
      front = b ∷ r.front;
      whole = rw (lt-ltb b 0x20 h) (ap (λ (l : List ℕ). b ∷ l) r.whole);
      low = more h r.low;
      starts = rw (lt-ltb b 0x20 h) r.starts;
    })
    (λ h.
    record { front = []; whole = rw (le-ltb b 0x20 h); low = none; starts = rw (le-ltb b 0x20 h) (with h) })

starts-front : (l m : List ℕ) → Starts (l ++ m) → Starts l
starts-front [] m h = empty
starts-front (b ∷ l) m (with h) = with h

neither : (l : List ℕ) → Low l → Starts l → l ≡ []
neither [] l s = refl
neither (b ∷ l) (more h r) (with g) = absurd (let q : ⊥ = omega arith in q)

-- the trim of a payload
pub record Trim (s : List ℕ) : Type 0 where
  pub front : List ℕ
  pub back : List ℕ
  pub whole : s ≡ front ++ text_of s ++ back
  pub start : length front ≡ text_start s
  pub low-front : Low front
  pub low-back : Low back
  pub starts : Starts (text_of s)
  pub ends : Starts (reverse (text_of s))

module _ (s : List ℕ) where
  last : Cut (reverse s)
  last = cut (reverse s)

  first : Cut (cut_back s)
  first = cut (cut_back s)

  back-apart : s ≡ cut_back s ++ reverse last.front
  unfolding cut_back
  back-apart = sym (reverse-reverse s) ∙ ap reverse last.whole ∙ reverse-append last.front (cut_front (reverse s))

  back-starts : reverse (cut_back s) ≡ cut_front (reverse s)
  unfolding cut_back
  back-starts = reverse-reverse (cut_front (reverse s))

  front-apart : cut_back s ≡ first.front ++ text_of s
  unfolding text_of
  front-apart = first.whole

  front_long : length first.front ≡ text_start s
  unfolding text_start
  front_long = omega (arith, ap length front-apart, length-append first.front (text_of s))

  pub trimmed : Trim s
  unfolding text_of
  trimmed =
      record {
        front = first.front;
        back = reverse last.front;
        whole = back-apart ∙ ap (λ (l : List ℕ). l ++ reverse last.front) front-apart;
        start = front_long;
        low-front = first.low;
        low-back = low-reverse last.low;
        starts = first.starts;
        ends =
            starts-front (reverse (text_of s)) (reverse first.front)
            (subst Starts (sym back-starts ∙ ap reverse front-apart ∙ reverse-append first.front (text_of s)) last.starts);
      }

  -- what remains lies in the payload, at its place
  behind : s ≡ trimmed.front ++ (text_of s ++ trimmed.back)
  behind = trimmed.whole ∙ append_assoc trimmed.front (text_of s) trimmed.back

  pub lies : take (length (text_of s)) (drop (text_start s) s) ≡ text_of s
  lies =
      let t = trimmed in
      ap (λ (n : ℕ). take (length (text_of s)) (drop n s)) (sym t.start)
      ∙ ap (λ (l : List ℕ). take (length (text_of s)) (drop (length t.front) l)) behind
      ∙ ap (take (length (text_of s))) (drop-append_seam t.front (text_of s ++ t.back))
      ∙ take-append_seam (text_of s) t.back

  pub lies_within : text_start s + length (text_of s) ≤ length s
  lies_within =
      let t = trimmed in
      omega (arith, t.start, ap length behind, length-append t.front (text_of s ++ t.back), length-append (text_of s) t.back)

  -- where nothing remains, the part is the payload's empty start
  pub none_left : text_of s ≡ [] → text_start s ≡ 0
  none_left e =
      let b : cut_back s ≡ first.front = front-apart ∙ ap (λ (l : List ℕ). first.front ++ l) e ∙ append-nil first.front in
      let z = neither (cut_front (reverse s)) (subst Low (ap reverse (sym b) ∙ back-starts) (low-reverse first.low)) last.starts in
      sym front_long ∙ ap length (sym b) ∙ sym (length-reverse (cut_back s)) ∙ ap length (back-starts ∙ z)
