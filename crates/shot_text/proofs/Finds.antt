-- A word that stands in a text ends within it, and its bytes are the text's there.
-- Conversely, a word whose bytes are the text's from a place on stands there.
use Prim.Native.Nat.{ℕ, ◌+◌, ◌-◌, ◌≤◌, ◌<◌}
use mathlib.Core.Path.{◌≡◌, sym, ◌∙◌, ap}
use mathlib.Core.Bool.{true, false}
use mathlib.Core.List.{List}
use native.Mathlib.Omega.{arith}
use lib.ListN.{length, get_or, take, drop, length-take, length-drop}
use lib.Seq.{get_or-take, get_or-drop, ext_get_or}
use Rattle.general.proofs.Cases.{by-eq}
use Rattle.shot_text.specs.Search.{Says, StandsAt, Stands}

-- an answer, from what is so
pub yes_of : {P : Type 0} → P → Says P true
yes_of p = record { yes = λ t. p; no = λ t q. let z : ◌≡◌ {A = ℕ} 0 1 = cc in omega arith }

pub no_of : {P : Type 0} → (P → ⊥) → Says P false
no_of n = record { yes = λ t. let z : ◌≡◌ {A = ℕ} 0 1 = cc in absurd (omega arith); no = λ t. n }

module _ (word text : List ℕ) where
  -- it stands at a place from which it ends within the text (an empty word stands at 0)
  pub within : Stands word text → (k : ℕ) × StandsAt word text k × (k + length word ≤ length text)
  within (k, e) =
      let fits : length word ≤ length text - k = omega (arith, simp (length-take, length-drop) at (ap length e)) in
      by-eq (length word) 0
      (λ z. (0, ap (λ (n : ℕ). take n text) z ∙ sym (ap (λ (n : ℕ). take n (drop k text)) z) ∙ e, omega arith))
      (λ z. (k, e, omega arith))

  pub byte_of : (k i : ℕ) → StandsAt word text k → i < length word → get_or text (k + i) 0 ≡ get_or word i 0
  byte_of k i e h = sym (get_or-drop k text i 0) ∙ sym (get_or-take (length word) (drop k text) i 0 h) ∙ ap (λ (l : List ℕ). get_or l i 0) e

  pub by_bytes : (k : ℕ) → k + length word ≤ length text → ((i : ℕ) → i < length word → get_or text (k + i) 0 ≡ get_or word i 0) → StandsAt word text k
  by_bytes k h f =
      let l : length (take (length word) (drop k text)) ≡ length word = simp (length-take, length-drop) (omega arith) in
      ext_get_or 0 _ word l (λ i q. let n : i < length word = rw l at q in get_or-take (length word) (drop k text) i 0 n ∙ get_or-drop k text i 0 ∙ f i n)
