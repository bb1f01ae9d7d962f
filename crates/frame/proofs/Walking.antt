-- What a walk over stuffed bytes writes, byte by byte and joined; of a proper string it is what that unstuffs to.
-- A proper string has as many `slots` as unstuffed bytes, so a walk over it stays in the lent part.
use mathlib.Core.Path.{◌≡◌, refl, sym, ap, ◌∙◌}
use mathlib.Core.Bool.{cond}
use mathlib.Core.List.{List, [], ◌∷◌, ◌++◌, append_assoc}
use Prim.Native.Nat.{ℕ, zero, suc, ◌+◌, ◌≤◌, ◌<◌, zero-le}
use native.Mathlib.Nat.{le_refl, add-zero}
use native.Mathlib.Numerals.{add-one}
use native.Mathlib.Omega.{arith}
use lib.Dec.{eqb}
use lib.ListN.{length, take, drop, get_or, set, length-take, take-append-drop}
use Rattle.std.proofs.lemmas.List.{get_or-take}
use lib.Seq.{take_all, take-suc-set, take-set-le}
use borrow.Author.Tests.{eq-eqb, ne_eqb}
use Rattle.general.proofs.Cases.{by-test, by-eq}
use Rattle.stuffing.specs.Stuff.{unescape_of}
use Rattle.unstuffing.specs.Unstuff.{unit_bytes}
use Rattle.unstuffing.specs.Escapes.{Proper, none, byte, escape}
use Rattle.unstuffing.specs.Private.{kept}
use Rattle.unstuffing.proofs.Proper.{units, code_other, kept-most}
use Rattle.frame.specs.Private.{stands_for, raw, slots}

-- ---- what is written

pub raw-proper : (i q : ℕ) → (q ≡ 0xFD → ⊥) → {l : List ℕ} (p : Proper l) → raw q l ≡ unit_bytes (units i p)
unfolding units
raw-proper i q h none = refl
raw-proper i q h (byte {b} {l} g p) = rw (ne_eqb b 0xFD g, ne_eqb q 0xFD h) (ap (λ (r : List ℕ). b ∷ r) (raw-proper (i + 1) b g p))
raw-proper i q h (escape {b} {c} {l} e g p) =
    rw (eq-eqb b 0xFD e, ne_eqb c 0xFD (code_other g)) (ap (λ (r : List ℕ). unescape_of c ∷ r) (raw-proper (i + 2) c (code_other g) p))

-- the last byte of a string, or the one before it
abbrev last_of : ℕ → List ℕ → ℕ
last_of p [] = p
last_of p (b ∷ l) = last_of b l

raw-append : (p : ℕ) (a b : List ℕ) → raw p (a ++ b) ≡ raw p a ++ raw (last_of p a) b
raw-append p [] b = refl
raw-append p (x ∷ a) b = by-test (eqb x 0xFD) (λ t. rw (t, raw-append x a b)) (λ t. rw (t, raw-append x a b))

pub length-raw : (p : ℕ) (l : List ℕ) → length (raw p l) ≡ kept l
length-raw p [] = refl
length-raw p (b ∷ l) = by-test (eqb b 0xFD) (λ t. rw t (omega (arith, length-raw b l))) (λ t. rw t (omega (arith, length-raw b l)))

-- ---- the places that are touched

pub slots-step : (b : ℕ) (l : List ℕ) → (1 ≤ slots (b ∷ l)) × (cond (eqb b 0xFD) 0 1 + slots l ≤ slots (b ∷ l))
slots-step b [] = by-test (eqb b 0xFD) (λ t. rw t (omega arith, omega arith)) (λ t. rw t (omega arith, omega arith))
slots-step b (c ∷ l) = (omega (arith, slots-step c l), omega arith)

pub slots-proper : (l : List ℕ) → Proper l → slots l ≡ kept l
slots-proper [] p = refl
slots-proper (b ∷ []) (byte h p) = rw (ne_eqb b 0xFD h)
slots-proper (b ∷ c ∷ l) (byte h p) = ap (λ (n : ℕ). cond (eqb b 0xFD) 0 1 + n) (slots-proper (c ∷ l) p)
slots-proper (b ∷ c ∷ []) (escape e h p) = rw (ne_eqb c 0xFD (code_other h))
slots-proper (b ∷ c ∷ d ∷ l) (escape e h p) =
    ap (λ (n : ℕ). cond (eqb b 0xFD) 0 1 + (cond (eqb c 0xFD) 0 1 + n)) (slots-proper (d ∷ l) p)

pub slots-take : (n : ℕ) (l : List ℕ) → slots (take n l) ≤ slots l
slots-take zero l = zero-le
slots-take (suc n) [] = le_refl 0
slots-take (suc zero) (b ∷ l) = (slots-step b l).0
slots-take (suc (suc n)) (b ∷ []) = le_refl 1
slots-take (suc (suc n)) (b ∷ c ∷ l) = omega (arith, slots-take (suc n) (c ∷ l))

pub slots-part : (n : ℕ) (l : List ℕ) → kept (take n l) + slots (drop n l) ≤ slots l
slots-part zero l = omega arith
slots-part (suc n) [] = omega arith
slots-part (suc n) (b ∷ l) = omega (arith, slots-part n l, slots-step b l)

-- ---- a string without FD

pub raw-plain : (p : ℕ) (a : List ℕ) → (p ≡ 0xFD → ⊥) → kept a ≡ length a → raw p a ≡ a
raw-plain p [] h e = refl
raw-plain p (b ∷ a) h e =
    by-eq b 0xFD
    (λ f. absurd (let q : ⊥ = omega (arith, rw (eq-eqb b 0xFD f) at e, kept-most a) in q))
    (λ f. rw (ne_eqb b 0xFD f, ne_eqb p 0xFD h) (ap (λ (r : List ℕ). b ∷ r) (raw-plain b a f (omega (arith, rw (ne_eqb b 0xFD f) at e)))))

pub kept-slots : (a : List ℕ) → kept a ≤ slots a
kept-slots [] = omega arith
kept-slots (b ∷ a) = omega (arith, slots-step b a, kept-slots a)

-- ---- stores

-- one byte of a walk: what is written, and what is to come
pub walk-on : (buf l : List ℕ) (p b j v : ℕ) → v ≡ stands_for p b → j < length buf
    → take (j + cond (eqb b 0xFD) 0 1) (set buf j v) ++ raw b l ≡ take j buf ++ raw p (b ∷ l)
walk-on buf l p b j v e h =
    by-test (eqb b 0xFD)
    (λ t. rw (t, add-zero, take-set-le j buf j v (le_refl j)))
    (λ t. rw (t, add-one, take-suc-set buf j v h, append_assoc, e))

-- ---- a part of a string, and what follows it

last-is : (p : ℕ) (l : List ℕ) (n : ℕ) → n < length l → last_of p (take (suc n) l) ≡ get_or l n 0
last-is p [] n h = absurd (let q : ⊥ = omega arith in q)
last-is p (b ∷ l) zero h = refl
last-is p (b ∷ l) (suc n) h = last-is b l n (omega arith)

pub raw-part : (p : ℕ) (l : List ℕ) → 16 ≤ length l → raw p l ≡ raw p (take 16 l) ++ raw (get_or (take 16 l) 15 0) (drop 16 l)
raw-part p l h =
    let last : last_of p (take 16 l) ≡ get_or (take 16 l) 15 0 = last-is p l 15 h ∙ sym (get_or-take 16 l 15 0 (omega arith)) in
    ap (raw p) (sym (take-append-drop 16 l)) ∙ raw-append p (take 16 l) (drop 16 l) ∙ rw last

-- a front that is as long as the whole is the whole
pub take_whole : (r : ℕ) (l : List ℕ) → length (take r l) ≡ length l → take r l ≡ l
take_whole r l e = take_all r l (omega (arith, length-take r l, e))
