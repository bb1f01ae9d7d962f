-- The sum of joined strings is the sum of their sums, wrapped at 65,536, in either order.
-- `running` is the step of a loop that adds and wraps.
use Rattle.std.proofs.Common.{◌≡◌, ℕ, ◌+◌, ◌%◌, ◌<◌, cond, eqb, List, [], ◌∷◌, ◌++◌, length, get_or, drop, sym, ◌∙◌, add-one, arith, drop-cons, eq-eqb, ne_eqb}
use Rattle.general.proofs.Cases.{by-eq}
use Rattle.stuffing.proofs.Codes.{plain, escaped}
use Rattle.stuffing.specs.Stuff.{escape_of, stuff_byte, total, sum16}

pub total-append : (s t : List ℕ) → total (s ++ t) ≡ total s + total t
total-append [] t = omega arith
total-append (b ∷ s) t = omega (arith, total-append s t)

pub sum-append : (s t : List ℕ) → sum16 (s ++ t) ≡ (sum16 s + sum16 t) % 65536
unfolding sum16
sum-append s t = omega (arith, total-append s t)

pub sum-either : (s t : List ℕ) → sum16 (s ++ t) ≡ sum16 (t ++ s)
unfolding sum16
sum-either s t = omega (arith, total-append s t, total-append t s)

-- a running sum a that x was added to, with r to come
pub running : {a' : ℕ} (a x r : ℕ) → a' ≡ (a + x) % 65536 → (a' + r) % 65536 ≡ (a + (x + r)) % 65536
running a x r e = omega arith

-- the bytes from i on: the byte at i, and the others
pub total-at : (s : List ℕ) (i : ℕ) → i < length s → total (drop i s) ≡ get_or s i 0 + total (drop (i + 1) s)
total-at s i h = rw (drop-cons s i 0 h, add-one)

-- ---- one byte, stuffed, by its code

module _ (b c : ℕ) (code : c ≡ escape_of b) where
  pub more_of : (more : ℕ) → more ≡ cond (eqb c 0) 0 1 → more + 1 ≡ length (stuff_byte b)
  more_of more e =
      by-eq c 0
      (λ h. rw (plain b (sym code ∙ h)) (omega (arith, simp (eq-eqb c 0 h) at e)))
      (λ h. rw (escaped b (λ q. h (code ∙ q))) (omega (arith, simp (ne_eqb c 0 h) at e)))

  pub sum_of : (lead : ℕ) → lead ≡ cond (eqb c 0) b 0xFD → (last : ℕ) → last ≡ c → lead + last ≡ total (stuff_byte b)
  sum_of lead e last g =
      by-eq c 0
      (λ h. rw (plain b (sym code ∙ h)) (omega (arith, simp (eq-eqb c 0 h) at e)))
      (λ h. rw (escaped b (λ q. h (code ∙ q))) (omega (arith, simp (ne_eqb c 0 h) at e)))
