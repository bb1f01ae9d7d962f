-- The table of codes: a byte with a code is the one that its code stands for; a code is at most 4.
-- So a byte that is written as an escape is read back, and no code is a mark.
use Rattle.std.proofs.Common.{◌≡◌, ℕ, ◌≤◌, Bool, true, false, cond, eqb, [], ◌∷◌, sym, refl, arith, eq-eqb, ne_eqb, eqb-true}
use Rattle.stuffing.specs.Stuff.{escape_of, unescape_of, stuff_byte}

-- a byte with no code stands for itself; each other is written as FD and its code
pub plain : (b : ℕ) → escape_of b ≡ 0 → stuff_byte b ≡ b ∷ []
unfolding stuff_byte
plain b h = simp (eq-eqb _ _ h)

pub escaped : (b : ℕ) → (escape_of b ≡ 0 → ⊥) → stuff_byte b ≡ 0xFD ∷ escape_of b ∷ []
unfolding stuff_byte
escaped b h = simp (ne_eqb _ _ h)

-- ---- and back

back-cond : (b : ℕ) (t : Bool) (x y : ℕ) → (t ≡ true → unescape_of x ≡ b) → ((y ≡ 0 → ⊥) → unescape_of y ≡ b) → (cond t x y ≡ 0 → ⊥) → unescape_of (cond t x y) ≡ b
back-cond b true x y f g h = f refl
back-cond b false x y f g h = g h

pub unescape-escape : (b : ℕ) → (escape_of b ≡ 0 → ⊥) → unescape_of (escape_of b) ≡ b
unfolding escape_of unescape_of
unescape-escape b =
    back-cond b (eqb b 0xF0) 1 _ (λ h. sym (eqb-true b 0xF0 h))
    (back-cond b (eqb b 0xF1) 2 _ (λ h. sym (eqb-true b 0xF1 h))
    (back-cond b (eqb b 0xFD) 3 _ (λ h. sym (eqb-true b 0xFD h))
    (back-cond b (eqb b 0xFA) 4 0 (λ h. sym (eqb-true b 0xFA h)) (λ h. absurd (h refl)))))

-- ---- bounds

cond-le : (t : Bool) {x y n : ℕ} → x ≤ n → y ≤ n → cond t x y ≤ n
cond-le true a b = a
cond-le false a b = b

pub code-small : (b : ℕ) → escape_of b ≤ 4
unfolding escape_of
code-small b =
    cond-le (eqb b 0xF0) (omega arith)
    (cond-le (eqb b 0xF1) (omega arith) (cond-le (eqb b 0xFD) (omega arith) (cond-le (eqb b 0xFA) (omega arith) (omega arith))))
