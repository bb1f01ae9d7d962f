-- Fields written one behind the other are their bytes in a row.
-- `laid` is the writing, and `laid-is` says what stands in the buffer then.
use Prim.Native.Nat.{ℕ, suc, ◌+◌, ◌≤◌}
use mathlib.Core.Path.{◌≡◌, refl, ◌∙◌, ap}
use mathlib.Core.List.{List, [], ◌∷◌, ◌++◌, flatten}
use native.Mathlib.Omega.{arith}
use lib.ListN.{length, set, length-append}
use lib.Seq.{sets}
use Rattle.error.specs.declared.WireError.{WireError}
use Rattle.error.specs.Refusal.{refused}
use Rattle.integer_write.specs.Writing.{writing, written}
use Rattle.integer_write.proofs.Cases.{writes}
use Rattle.integer_write.proofs.Back.{length-written}

-- each field written behind the one before
unfoldable pub laid : List (List ℕ) → List ℕ → ℕ → List ℕ
laid [] s at = s
laid (f ∷ fs) s at = laid fs (written f s at) (at + length f)

sets_more : (f g s : List ℕ) (at : ℕ) → sets (sets s at f) (at + length f) g ≡ sets s at (f ++ g)
sets_more [] g s at = ap (λ (k : ℕ). sets s k g) (omega arith)
sets_more (x ∷ f) g s at =
    ap (λ (k : ℕ). sets (sets (set s at x) (suc at) f) k g) (omega arith) ∙ sets_more f g (set s at x) (suc at)

pub laid-is : (fs : List (List ℕ)) (s : List ℕ) (at : ℕ) → at + length (flatten fs) ≤ length s → laid fs s at ≡ sets s at (flatten fs)
unfolding laid flatten
laid-is [] s at h = refl
laid-is (f ∷ fs) s at h =
    let l = length-append f (flatten fs) in
    let w = (writes f s at (omega arith)).1 in
    laid-is fs (written f s at) (at + length f) (simp (length-written f s at) (omega arith))
    ∙ ap (λ (b : List ℕ). sets b (at + length f) (flatten fs)) w
    ∙ sets_more f (flatten fs) s at

-- one field more in front
pub field : (f : List ℕ) (fs : List (List ℕ)) (at : ℕ) (b : List ℕ) {c : List ℕ} → c ≡ written f b at → laid fs c (at + length f) ≡ laid (f ∷ fs) b at
unfolding laid
field f fs at b e = ap (λ (l : List ℕ). laid fs l (at + length f)) e

-- ---- where there is room, no field is refused

-- a write keeps the room
pub room : (f b : List ℕ) (at : ℕ) {c : List ℕ} {n : ℕ} → c ≡ written f b at → n ≤ length b → n ≤ length c
room f b at e h = omega (arith, length-written f b at, ap length e)

pub not-refused : (f b : List ℕ) (at : ℕ) (e : WireError) → at + length f ≤ length b → refused e ≡ writing f b at → ⊥
not-refused f b at e h q = let w = (writes f b at h).0 in cc
