-- Whether a number is told, by rules that test one thing after the other and go on from what is told.
-- What only one part of a rule can tell is told by that part (`told-before`, `part-refused`), and the tests before it are passed (`test-passed`).
use Prim.Native.Nat.{ℕ}
use mathlib.Core.Path.{◌≡◌, refl, sym, ap, ◌∙◌}
use mathlib.Core.Bool.{Bool, true, false, cond}
use mathlib.Core.List.{List}
use native.Mathlib.Omega.{arith}
use lib.Dec.{eqb}
use borrow.Author.Tests.{eq-eqb}
use Rattle.error.specs.Refusal.{Told, yes, no, on_yes, and_then}

abbrev pub is_told : {A : Type 0} → ℕ → Told A → Bool
is_told n (yes a) = false
is_told n (no k vs) = eqb k n

-- what tells a number is not what does not
apart : {A : Type 0} (k : ℕ) (vs : List ℕ) (u : Told A) → no k vs ≡ u → is_told k u ≡ false → ⊥
apart k vs u e h =
    let z : true ≡ false = sym (eq-eqb k k refl) ∙ ap (is_told k) e ∙ h in
    let q : ◌≡◌ {A = ℕ} 0 1 = cc in
    let r : ⊥ = omega arith in
    r

pub then-tells : {A B : Type 0} (n : ℕ) (t : Told A) (rule : A → Told B) → is_told n t ≡ false → ((a : A) → is_told n (rule a) ≡ false)
    → is_told n (and_then t rule) ≡ false
then-tells n (yes a) rule e h = h a
then-tells n (no k vs) rule e h = e

-- a refusal that is not what a test tells has passed the test, and so has a value
pub test-passed : {A : Type 0} (t : Bool) (n : ℕ) (ws : List ℕ) (y u : Told A) → is_told n u ≡ false → cond t (no n ws) y ≡ u → (t ≡ false) × (y ≡ u)
test-passed true n ws y u h e = absurd (apart n ws u e h)
test-passed false n ws y u h e = (refl, e)

-- what goes on from a value does not tell k
pub told-before : {A B : Type 0} (t : Told A) (rule : A → Told B) (k : ℕ) (vs : List ℕ) → ((a : A) → is_told k (rule a) ≡ false)
    → and_then t rule ≡ no k vs → t ≡ no k vs
told-before (yes a) rule k vs h e = absurd (apart k vs (rule a) (sym e) (h a))
told-before (no l ws) rule k vs h e = cc

-- a part of a part is one part
pub part-of-part : {A B C : Type 0} (f : A → B) (g : B → C) (t : Told A) → on_yes g (on_yes f t) ≡ on_yes (λ a. g (f a)) t
part-of-part f g (yes a) = refl
part-of-part f g (no k vs) = refl

-- a part of a value is no refusal
pub part-refused : {A B : Type 0} (f : A → B) (t : Told A) (k : ℕ) (vs : List ℕ) → on_yes f t ≡ no k vs → t ≡ no k vs
part-refused f (yes a) k vs e = absurd (apart k vs (yes (f a)) (sym e) refl)
part-refused f (no l ws) k vs e = cc
