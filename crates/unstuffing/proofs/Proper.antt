-- Proper strings unstuff and no others do, to as many bytes as they have without their FDs.
-- `proper-pair` and `proper-last` tell a proper string from its neighbouring pairs.
use Rattle.std.proofs.Common.{◌≡◌, ℕ, ◌+◌, ◌≤◌, Bool, true, false, ◌&&◌, cond, eqb, List, [], ◌∷◌, length, refl, ap, ◌∙◌, arith, eq-eqb, ne_eqb}
use Rattle.error.specs.Refusal.{Told, yes, no}
use Rattle.general.proofs.Cases.{by-test, by-eq}
use Rattle.stuffing.specs.Stuff.{unescape_of}
use Rattle.unstuffing.specs.Escapes.{Proper, none, byte, escape}
use Rattle.unstuffing.specs.Private.{kept}
use Rattle.unstuffing.specs.Unstuff.{escape_by, step_by, after, unstuff}
use Rattle.unstuffing.proofs.Unstuffing.{step-plain, step-escape}

-- what it unstuffs to, its first byte being at offset i
unfoldable pub units : (i : ℕ) {s : List ℕ} → Proper s → List (ℕ × ℕ)
units i none = []
units i (byte {b} h p) = (b, i) ∷ units (i + 1) p
units i (escape {c = c} e h p) = (unescape_of c, i) ∷ units (i + 2) p

pub unstuff-proper : (i : ℕ) {s : List ℕ} (p : Proper s) → unstuff i s ≡ yes (units i p)
unfolding units
unstuff-proper i none = refl
unstuff-proper i (byte {b} {l} h p) = step-plain i b l h ∙ ap (after i (yes b)) (unstuff-proper (i + 1) p)
unstuff-proper i (escape {b} {c} {l} e h p) = rw e (step-escape i c l h ∙ ap (after i (yes (unescape_of c))) (unstuff-proper (i + 2) p))

-- ---- and nothing else unstuffs

abbrev pub is_yes : {A : Type 0} → Told A → Type 0
is_yes (yes a) = Unit
is_yes (no k vs) = ⊥

rest-yes : (i v : ℕ) (t : Told (List (ℕ × ℕ))) → is_yes (after i (yes v) t) → is_yes t
rest-yes i v (yes us) y = tt
rest-yes i v (no k vs) y = elim y [ ]

pub proper-of : (i : ℕ) (s : List ℕ) → is_yes (unstuff i s) → Proper s
unfolding step_by escape_by
proper-of i [] y = none
proper-of i (b ∷ []) y = by-eq b 0xFD (λ h. absurd (rw (eq-eqb b 0xFD h) at y)) (λ h. byte h none)
proper-of i (b ∷ c ∷ l) y =
    by-eq b 0xFD
    (λ h.
    by-eq (unescape_of c) 0 (λ g. absurd (rw (eq-eqb b 0xFD h, eq-eqb (unescape_of c) 0 g) at y))
    (λ g. escape h g (proper-of (i + 2) l (rest-yes i (unescape_of c) (unstuff (i + 2) l) (rw (eq-eqb b 0xFD h, ne_eqb (unescape_of c) 0 g) at y)))))
    (λ h. byte h (proper-of (i + 1) (c ∷ l) (rest-yes i b (unstuff (i + 1) (c ∷ l)) (rw (ne_eqb b 0xFD h) at y))))

-- ---- how many bytes: those that are not FD

-- a code is not FD
code-FD : unescape_of 0xFD ≡ 0
unfolding unescape_of
code-FD = refl

pub code_other : {c : ℕ} → (unescape_of c ≡ 0 → ⊥) → c ≡ 0xFD → ⊥
code_other h e = h (ap unescape_of e ∙ code-FD)

pub length-units : (i : ℕ) {s : List ℕ} (p : Proper s) → length (units i p) ≡ kept s
unfolding units
length-units i none = refl
length-units i (byte {b} h p) = rw (ne_eqb b 0xFD h) (omega (arith, length-units (i + 1) p))
length-units i (escape {b} {c} e h p) = rw (eq-eqb b 0xFD e, ne_eqb c 0xFD (code_other h)) (omega (arith, length-units (i + 2) p))

-- ---- from pairs of neighbours

-- p is FD and what follows it is no code
abbrev pub is_fault : ℕ → ℕ → Bool
is_fault p c = eqb p 0xFD && eqb (unescape_of c) 0

proper-tail : {b : ℕ} {l : List ℕ} → (b ≡ 0xFD → ⊥) → Proper (b ∷ l) → Proper l
proper-tail h (byte g p) = p
proper-tail h (escape e g p) = absurd (h e)

pub proper-pair : (p b : ℕ) (l : List ℕ) → is_fault p b ≡ false → Proper (b ∷ l) → Proper (p ∷ b ∷ l)
proper-pair p b l f q =
    by-eq p 0xFD
    (λ h.
    by-eq (unescape_of b) 0
    (λ g. let z : true ≡ false = rw (eq-eqb p 0xFD h, eq-eqb (unescape_of b) 0 g) at f in cc)
    (λ g. escape h g (proper-tail (code_other g) q)))
    (λ h. byte h q)

code-0 : unescape_of 0 ≡ 0
unfolding unescape_of
code-0 = refl

pub proper-last : (p : ℕ) → is_fault p 0 ≡ false → Proper (p ∷ [])
proper-last p f =
    by-eq p 0xFD
    (λ h. let z : true ≡ false = rw (eq-eqb p 0xFD h, code-0) at f in cc)
    (λ h. byte h none)

-- a byte is kept, or is one FD more
pub kept-flag : (p : ℕ) (l : List ℕ) {s : List ℕ} {flag : ℕ} → s ≡ p ∷ l → flag ≡ cond (eqb p 0xFD) 1 0 → kept s + flag ≡ 1 + kept l
kept-flag p l {s} {flag} e f =
    rw e (by-test (eqb p 0xFD) (λ t. rw t (omega (arith, rw t at f))) (λ t. rw t (omega (arith, rw t at f))))

pub kept-most : (s : List ℕ) → kept s ≤ length s
kept-most [] = omega arith
kept-most (b ∷ l) = by-test (eqb b 0xFD) (λ t. rw t (omega (arith, kept-most l))) (λ t. rw t (omega (arith, kept-most l)))
