-- Stuffing of joined strings is the joined stuffings; no F0 and no F1 stands in a stuffed string.
-- A stuffed string is as long as its own string at least, and twice as long at most.
use Rattle.std.proofs.Common.{◌≡◌, ℕ, ◌+◌, ◌*◌, ◌<◌, ◌≤◌, false, ◌||◌, eqb, List, [], ◌∷◌, ◌++◌, length, get_or, take, drop, sym, refl, ap, ◌∙◌, append_assoc, add-one, arith, length-append, take-append-drop, drop-cons, drop-drop, ne_eqb}
use Rattle.general.proofs.Cases.{by-test, by-eq}
use Rattle.search.specs.First.{has}
use Rattle.stuffing.specs.Stuff.{escape_of, stuff_byte, stuff}
use Rattle.stuffing.proofs.Codes.{plain, escaped, code-small}

pub stuff-append : (s t : List ℕ) → stuff (s ++ t) ≡ stuff s ++ stuff t
stuff-append [] t = refl
stuff-append (b ∷ s) t = rw (stuff-append s t, append_assoc)

-- the stuffed bytes from i on: those of the byte at i, and the others
pub stuff-at : (s : List ℕ) (i : ℕ) → i < length s → stuff (drop i s) ≡ stuff_byte (get_or s i 0) ++ stuff (drop (i + 1) s)
stuff-at s i h = rw (drop-cons s i 0 h, add-one)

-- the stuffed bytes from i on: those of the next n, and the others
pub stuff-part : (s : List ℕ) (i n : ℕ) → stuff (drop i s) ≡ stuff (take n (drop i s)) ++ stuff (drop (i + n) s)
stuff-part s i n = ap stuff (sym (take-append-drop n (drop i s))) ∙ stuff-append (take n (drop i s)) (drop n (drop i s)) ∙ rw (drop-drop n i s)

-- ---- lengths

pub width : (b : ℕ) → (1 ≤ length (stuff_byte b)) × (length (stuff_byte b) ≤ 2)
width b = by-eq (escape_of b) 0 (λ h. rw (plain b h) (omega arith, omega arith)) (λ h. rw (escaped b h) (omega arith, omega arith))

pub stuff-least : (s : List ℕ) → length s ≤ length (stuff s)
stuff-least [] = omega arith
stuff-least (b ∷ s) = omega (arith, length-append (stuff_byte b) (stuff s), width b, stuff-least s)

pub stuff-most : (s : List ℕ) → length (stuff s) ≤ 2 * length s
stuff-most [] = omega arith
stuff-most (b ∷ s) = omega (arith, length-append (stuff_byte b) (stuff s), width b, stuff-most s)

-- ---- bytes that never stand in a stuffed string

pub has-append : (x : ℕ) (a b : List ℕ) → has x (a ++ b) ≡ has x a || has x b
has-append x [] b = refl
has-append x (y ∷ a) b = by-test (eqb y x) (λ e. rw e) (λ e. rw (e, has-append x a b))

-- a byte above the codes that has a code itself, but FD
module _ (x : ℕ) (high : 4 < x) (code : escape_of x ≡ 0 → ⊥) (other : 0xFD ≡ x → ⊥) where
  byte-lacks : (b : ℕ) → has x (stuff_byte b) ≡ false
  byte-lacks b =
      by-eq (escape_of b) 0
      (λ z.
      let n : b ≡ x → ⊥ = λ q. code (ap escape_of (sym q) ∙ z) in
      rw (plain b z, ne_eqb b x n))
      (λ z.
      let n : escape_of b ≡ x → ⊥ = λ q. omega (arith, code-small b) in
      rw (escaped b z, ne_eqb 0xFD x other, ne_eqb (escape_of b) x n))

  stuff-lacks : (l : List ℕ) → has x (stuff l) ≡ false
  stuff-lacks [] = refl
  stuff-lacks (b ∷ l) = has-append x (stuff_byte b) (stuff l) ∙ rw (byte-lacks b, stuff-lacks l)

code-F0 : escape_of 0xF0 ≡ 0 → ⊥
unfolding escape_of
code-F0 e = omega arith

code-F1 : escape_of 0xF1 ≡ 0 → ⊥
unfolding escape_of
code-F1 e = omega arith

pub no-F0 : (l : List ℕ) → has 0xF0 (stuff l) ≡ false
no-F0 = stuff-lacks 0xF0 (omega arith) code-F0 (λ e. omega arith)

pub no-F1 : (l : List ℕ) → has 0xF1 (stuff l) ≡ false
no-F1 = stuff-lacks 0xF1 (omega arith) code-F1 (λ e. omega arith)
