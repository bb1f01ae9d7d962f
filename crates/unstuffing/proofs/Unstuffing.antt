-- Unstuffing a stuffed string gives its bytes back, each at its offset; so two different strings never stuff alike.
-- `unstuff-step` is one step, whatever the byte.
use Rattle.std.proofs.Common.{◌≡◌, ℕ, ◌+◌, ◌<◌, ◌≤◌, eqb, List, [], ◌∷◌, ◌++◌, length, get_or, drop, sym, refl, ap, ◌∙◌, add-zero, add-one, arith, length-append, drop-cons, drop-drop, ne_eqb}
use lib.ListN.{length-map}
use Rattle.error.specs.Refusal.{yes, on_yes}
use Rattle.general.proofs.Cases.{by-test, by-eq}
use Rattle.stuffing.specs.Stuff.{escape_of, unescape_of, stuff_byte, stuff}
use Rattle.unstuffing.specs.Private.{width_of}
use Rattle.unstuffing.specs.Unstuff.{escape_by, step_by, step_at, after, unstuff, offset_at, unit_bytes}
use Rattle.stuffing.proofs.Codes.{plain, escaped, unescape-escape}

-- ---- a step of unstuffing

pub width-most : (b : ℕ) → (1 ≤ width_of b) × (width_of b ≤ 2)
width-most b = by-test (eqb b 0xFD) (λ e. rw e (omega arith, omega arith)) (λ e. rw e (omega arith, omega arith))

pub unstuff-step : (i b : ℕ) (l : List ℕ) → unstuff i (b ∷ l) ≡ after i (step_at i b l) (unstuff (i + width_of b) (drop (width_of b) (b ∷ l)))
unstuff-step i b [] = by-test (eqb b 0xFD) (λ e. rw e) (λ e. rw e)
unstuff-step i b (c ∷ l) = by-test (eqb b 0xFD) (λ e. rw e) (λ e. rw e)

-- the bytes from i on
pub unstuff-at : (s : List ℕ) (i : ℕ) → i < length s
    → unstuff i (drop i s) ≡ after i (step_at i (get_or s i 0) (drop (i + 1) s)) (unstuff (i + width_of (get_or s i 0)) (drop (i + width_of (get_or s i 0)) s))
unstuff-at s i h =
    let b = get_or s i 0 in
    let d : drop i s ≡ b ∷ drop (i + 1) s = rw (add-one) (drop-cons s i 0 h) in
    ap (unstuff i) d ∙ unstuff-step i b (drop (i + 1) s)
    ∙ rw (← d, drop-drop (width_of b) i s)

pub step-plain : (i b : ℕ) (l : List ℕ) → (b ≡ 0xFD → ⊥) → unstuff i (b ∷ l) ≡ after i (yes b) (unstuff (i + 1) l)
unfolding step_by
step-plain i b l h = unstuff-step i b l ∙ simp (ne_eqb _ _ h)

pub step-escape : (i c : ℕ) (l : List ℕ) → (unescape_of c ≡ 0 → ⊥) → unstuff i (0xFD ∷ c ∷ l) ≡ after i (yes (unescape_of c)) (unstuff (i + 2) l)
unfolding step_by escape_by
step-escape i c l h = simp (ne_eqb _ _ h)

-- ---- one byte

escape-FD : escape_of 0xFD ≡ 3
unfolding escape_of
escape-FD = refl

escape-0 : escape_of 0 ≡ 0
unfolding escape_of
escape-0 = refl

pub unstuff-one : (i b : ℕ) (l : List ℕ) → unstuff i (stuff_byte b ++ l) ≡ after i (yes b) (unstuff (i + length (stuff_byte b)) l)
unstuff-one i b l =
    by-eq (escape_of b) 0
    (λ z.
    let n : b ≡ 0xFD → ⊥ = λ q. (let y : ◌≡◌ {A = ℕ} 0 3 = sym z ∙ ap escape_of q ∙ escape-FD in omega arith) in
    rw (plain b z) (step-plain i b l n))
    (λ z.
    let u : unescape_of (escape_of b) ≡ b = unescape-escape b z in
    let n : unescape_of (escape_of b) ≡ 0 → ⊥ = λ q. z (ap escape_of (sym u ∙ q) ∙ escape-0) in
    rw (escaped b z) (step-escape i (escape_of b) l n ∙ rw u))

-- ---- a whole string

-- the bytes of a string, each with the offset of its stuffed form, the first at i
abbrev pub placed : ℕ → List ℕ → List (ℕ × ℕ)
placed i [] = []
placed i (b ∷ l) = (b, i) ∷ placed (i + length (stuff_byte b)) l

pub unstuff-stuff : (i : ℕ) (l : List ℕ) → unstuff i (stuff l) ≡ yes (placed i l)
unstuff-stuff i [] = refl
unstuff-stuff i (b ∷ l) = unstuff-one i b (stuff l) ∙ ap (after i (yes b)) (unstuff-stuff (i + length (stuff_byte b)) l)

pub bytes-placed : (i : ℕ) (l : List ℕ) → unit_bytes (placed i l) ≡ l
bytes-placed i [] = refl
bytes-placed i (b ∷ l) = ap (λ (r : List ℕ). b ∷ r) (bytes-placed (i + length (stuff_byte b)) l)

pub unstuffed : (i : ℕ) (l : List ℕ) → on_yes unit_bytes (unstuff i (stuff l)) ≡ yes l
unstuffed i l = rw (unstuff-stuff i l, bytes-placed i l)

pub stuff-apart : (s t : List ℕ) → stuff s ≡ stuff t → s ≡ t
stuff-apart s t e =
    let q : yes s ≡ yes t = sym (unstuffed 0 s) ∙ ap (λ (l : List ℕ). on_yes unit_bytes (unstuff 0 l)) e ∙ unstuffed 0 t in
    cc

pub length-placed : (i : ℕ) (l : List ℕ) → length (placed i l) ≡ length l
length-placed i l = sym (length-map (placed i l) (λ (u : ℕ × ℕ). u.0)) ∙ ap length (bytes-placed i l)

-- the offset of the byte after l is that of l's first, and the length of l stuffed
pub offset-placed : (i : ℕ) (l : List ℕ) (x : ℕ) (r : List ℕ) → offset_at (placed i (l ++ x ∷ r)) (length l) ≡ i + length (stuff l)
offset-placed i [] x r = sym (add-zero i)
offset-placed i (b ∷ l) x r =
    offset-placed (i + length (stuff_byte b)) l x r ∙ omega (arith, length-append (stuff_byte b) (stuff l))
