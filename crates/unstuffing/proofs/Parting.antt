-- Proper strings taken apart: joined ones unstuff to both, and each has a first unstuffed byte and a last one.
-- `Front` and `Back` are what is known at the two ends.
use Rattle.std.proofs.Common.{◌≡◌, ℕ, suc, ◌+◌, ◌-◌, ◌<◌, ◌≤◌, List, [], ◌∷◌, ◌++◌, length, get_or, take, drop, refl, ap, ◌∙◌, add-zero, arith, length-drop, get_or-drop, drop-drop, eq-eqb, ne_eqb}
use Rattle.error.specs.Refusal.{Told, yes, no, on_yes}
use Rattle.stuffing.specs.Stuff.{unescape_of}
use Rattle.unstuffing.specs.Unstuff.{escape_by, step_by, step_at, after, unstuff}
use Rattle.unstuffing.specs.Escapes.{Proper, none, byte, escape}
use Rattle.unstuffing.specs.Private.{kept, width_of, value_of}
use Rattle.unstuffing.proofs.Unstuffing.{step-plain, step-escape, width-most, unstuff-at}
use Rattle.unstuffing.proofs.Proper.{units, code_other}

-- ---- joined

pub proper-append : {a b : List ℕ} → Proper a → Proper b → Proper (a ++ b)
proper-append none q = q
proper-append (byte h p) q = byte h (proper-append p q)
proper-append (escape e h p) q = escape e h (proper-append p q)

pub kept_append : (a b : List ℕ) → kept (a ++ b) ≡ kept a + kept b
kept_append [] b = omega arith
kept_append (x ∷ a) b = omega (arith, kept_append a b)

pub kept-none : {s : List ℕ} → Proper s → kept s ≡ 0 → s ≡ []
kept-none none e = refl
kept-none (byte {b} h p) e = absurd (let q : ⊥ = omega (arith, rw (ne_eqb b 0xFD h) at e) in q)
kept-none (escape {b} {c} x h p) e = absurd (let q : ⊥ = omega (arith, rw (ne_eqb c 0xFD (code_other h)) at e) in q)

put-in-front : (i b : ℕ) (us : List (ℕ × ℕ)) (t : Told (List (ℕ × ℕ))) → after i (yes b) (on_yes (λ r. us ++ r) t) ≡ on_yes (λ r. (b, i) ∷ (us ++ r)) t
put-in-front i b us (yes r) = refl
put-in-front i b us (no k vs) = refl

none-in-front : (t : Told (List (ℕ × ℕ))) → t ≡ on_yes (λ r. r) t
none-in-front (yes r) = refl
none-in-front (no k vs) = refl

-- what is told of bytes behind a proper string is told of both: a refusal as it is
pub unstuff-join : (i : ℕ) {a : List ℕ} (p : Proper a) (b : List ℕ) → unstuff i (a ++ b) ≡ on_yes (λ us. units i p ++ us) (unstuff (i + length a) b)
unfolding units
unstuff-join i none b = rw (add-zero i) (none-in-front (unstuff i b))
unstuff-join i (byte {b = x} {l} h p) b =
    let n : i + 1 + length l ≡ i + suc (length l) = omega arith in
    step-plain i x (l ++ b) h ∙ ap (after i (yes x)) (unstuff-join (i + 1) p b)
    ∙ put-in-front i x (units (i + 1) p) (unstuff (i + 1 + length l) b) ∙ rw n
unstuff-join i (escape {b = x} {c} {l} e h p) b =
    let n : i + 2 + length l ≡ i + suc (suc (length l)) = omega arith in
    rw e
    (step-escape i c (l ++ b) h ∙ ap (after i (yes (unescape_of c))) (unstuff-join (i + 2) p b)
    ∙ put-in-front i (unescape_of c) (units (i + 2) p) (unstuff (i + 2 + length l) b) ∙ rw n)

-- ---- the first byte

pub record Front (l : List ℕ) : Type 0 where
  pub rest : Proper (drop (width_of (get_or l 0 0)) l)
  pub inside : width_of (get_or l 0 0) ≤ length l
  pub one : kept l ≡ 1 + kept (drop (width_of (get_or l 0 0)) l)
  pub step : (i : ℕ) → step_at i (get_or l 0 0) (drop 1 l) ≡ yes (value_of l)

pub value-plain : (b : ℕ) (l : List ℕ) → (b ≡ 0xFD → ⊥) → value_of (b ∷ l) ≡ b
value-plain b [] h = refl
value-plain b (c ∷ l) h = rw (ne_eqb b 0xFD h)

pub front : {l : List ℕ} → Proper l → 0 < length l → Front l
unfolding step_by escape_by
front none h = absurd (let q : ⊥ = omega arith in q)
front (byte {b} {l} g p) h =
    record {
      rest = rw (ne_eqb b 0xFD g) p;
      inside = rw (ne_eqb b 0xFD g) (omega arith);
      one = rw (ne_eqb b 0xFD g);
      step = λ i. rw (value-plain b l g, ne_eqb b 0xFD g);
    }
front (escape {b} {c} {l} e g p) h =
    record {
      rest = rw (eq-eqb b 0xFD e) p;
      inside = rw (eq-eqb b 0xFD e) (omega arith);
      one = rw (eq-eqb b 0xFD e, ne_eqb c 0xFD (code_other g)) (omega arith);
      step = λ i. rw (eq-eqb b 0xFD e, ne_eqb (unescape_of c) 0 g);
    }

-- the same at a place of a string
pub record FrontAt (s : List ℕ) (i : ℕ) : Type 0 where
  pub rest : Proper (drop (i + width_of (get_or s i 0)) s)
  pub inside : i + width_of (get_or s i 0) ≤ length s
  pub one : kept (drop i s) ≡ 1 + kept (drop (i + width_of (get_or s i 0)) s)
  pub is : unstuff i (drop i s) ≡ after i (yes (value_of (drop i s))) (unstuff (i + width_of (get_or s i 0)) (drop (i + width_of (get_or s i 0)) s))

pub front_at : (s : List ℕ) (i : ℕ) → Proper (drop i s) → i < length s → FrontAt s i
front_at s i p h =
    let f : Front (drop i s) = front p (omega (arith, length-drop i s)) in
    let b : get_or (drop i s) 0 0 ≡ get_or s i 0 = get_or-drop i s 0 0 ∙ rw add-zero in
    let d : drop (width_of (get_or (drop i s) 0 0)) (drop i s) ≡ drop (i + width_of (get_or s i 0)) s = rw b (drop-drop (width_of (get_or s i 0)) i s) in
    let r : drop 1 (drop i s) ≡ drop (i + 1) s = drop-drop 1 i s in
    record {
      rest = rw d at f.rest;
      inside = omega (arith, rw b at f.inside, length-drop i s);
      one = rw d at f.one;
      is =
          unstuff-at s i h
          ∙ ap (λ (t : Told ℕ). after i t (unstuff (i + width_of (get_or s i 0)) (drop (i + width_of (get_or s i 0)) s))) (rw (b, r) at (f.step i));
    }

-- ---- the last byte

-- where it starts: FD is never a code, so the byte before the last tells
abbrev pub cut_of : List ℕ → ℕ
cut_of s = length s - width_of (get_or s (length s - 2) 0)

pub record Back (s : List ℕ) (at : ℕ) : Type 0 where
  pub inside : at < length s
  pub left : Proper (take at s)
  pub right : Proper (drop at s)
  pub one : kept (drop at s) ≡ 1

-- a byte in front moves it by one
cut-far : (b x y : ℕ) (l : List ℕ) → cut_of (b ∷ x ∷ y ∷ l) ≡ suc (cut_of (x ∷ y ∷ l))
cut-far b x y l =
    let k : length (b ∷ x ∷ y ∷ l) - 2 ≡ suc (length (x ∷ y ∷ l) - 2) = omega arith in
    rw k (omega (arith, width-most (get_or (x ∷ y ∷ l) (length (x ∷ y ∷ l) - 2) 0)))

plain-only : (b : ℕ) → Proper (b ∷ []) → b ≡ 0xFD → ⊥
plain-only b (byte h p) e = h e

cut-next : (b x : ℕ) (l : List ℕ) → (b ≡ 0xFD → ⊥) → Proper (x ∷ l) → cut_of (b ∷ x ∷ l) ≡ suc (cut_of (x ∷ l))
cut-next b x [] h p = rw (ne_eqb b 0xFD h, ne_eqb x 0xFD (plain-only x p))
cut-next b x (y ∷ l) h p = cut-far b x y l

behind : (b : ℕ) (l : List ℕ) (at : ℕ) → Proper (b ∷ take at l) → Back l at → Back (b ∷ l) (suc at)
behind b l at p k = record { inside = omega (arith, k.inside); left = p; right = k.right; one = k.one }

pub back : (s : List ℕ) → Proper s → 0 < length s → Back s (cut_of s)
back [] p h = absurd (let q : ⊥ = omega arith in q)
back (b ∷ []) (byte g p) h =
    rw (ne_eqb b 0xFD g) (record { inside = omega arith; left = none; right = byte g none; one = rw (ne_eqb b 0xFD g) })
back (b ∷ x ∷ l) (byte g p) h =
    let k = back (x ∷ l) p (omega arith) in
    rw (cut-next b x l g p) (behind b (x ∷ l) (cut_of (x ∷ l)) (byte g k.left) k)
back (b ∷ c ∷ []) (escape e g p) h =
    rw (eq-eqb b 0xFD e) (record { inside = omega arith; left = none; right = escape e g none; one = rw (eq-eqb b 0xFD e, ne_eqb c 0xFD (code_other g)) })
back (b ∷ c ∷ x ∷ l) (escape e g p) h =
    let k = back (x ∷ l) p (omega arith) in
    let left : Proper (b ∷ c ∷ take (cut_of (x ∷ l)) (x ∷ l)) = escape e g k.left in
    rw (cut-far b c x l, cut-next c x l (code_other g) p)
    (record { inside = omega (arith, k.inside); left = left; right = k.right; one = k.one })
