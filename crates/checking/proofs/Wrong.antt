-- A wire is refused for its first wrong escape exactly where it has one and passed what is tested before:
-- 12 where the escape is cut off, 4 with a code where that code is behind its FD, 00 or another. No test of a wire asks for room (`never-8`).
use mathlib.Core.Path.{◌≡◌, refl, ap, ◌∙◌}
use mathlib.Core.Bool.{false, not}
use mathlib.Core.List.{List, [], ◌∷◌}
use Prim.Native.Nat.{ℕ, ◌-◌}
use native.Mathlib.Omega.{arith}
use lib.Dec.{eqb, ltb}
use lib.ListN.{length, get_or}
use Rattle.error.specs.Refusal.{Told, no, and_then}
use Rattle.error.proofs.Tells.{told-before, test-passed}
use Rattle.unstuffing.specs.Unstuff.{wrong_escape, unstuff}
use Rattle.unstuffing.specs.Escapes.{FirstWrong}
use Rattle.unstuffing.proofs.Wrong.{first-told, first_found, told-cut, told-code}
use Rattle.checking.specs.Rule.{interior, units_rule, check_rule}
use Rattle.checking.specs.Wrong.{Enclosed, CutOff, WrongCode}
use Rattle.checking.proofs.Cases.{framed}
use Rattle.checking.proofs.Checked.{enclosed}
use Rattle.checking.proofs.Rust.{units-tell}

-- ---- the first wrong escape is told

goes_through : {A B : Type 0} (o : ℕ) (l : List ℕ) (rule : A → Told B) → and_then (wrong_escape o l) rule ≡ wrong_escape o l
goes_through o [] rule = refl
goes_through o (c ∷ l) rule = refl

pub wrong-checked : (w : List ℕ) (o : ℕ) (l : List ℕ) → Enclosed w → FirstWrong (interior w) o l → check_rule w ≡ wrong_escape o l
wrong-checked w o l e f =
    framed w e.long e.first e.last
    ∙ ap (λ (t : Told (List (ℕ × ℕ))). and_then t (units_rule (length w) (interior w))) (first-told f)
    ∙ goes_through o l (units_rule (length w) (interior w))

-- ---- and is what is told

-- a number that no test before the escapes tells, and none behind them
escapes-told : (w : List ℕ) (k : ℕ) (vs : List ℕ) → eqb k 1 ≡ false → eqb k 2 ≡ false → eqb k 3 ≡ false → eqb 1 k ≡ false → eqb 5 k ≡ false → eqb 6 k ≡ false
    → check_rule w ≡ no k vs → Enclosed w × (unstuff 0 (interior w) ≡ no k vs)
unfolding check_rule
escapes-told w k vs past-1 past-2 past-3 not-1 not-5 not-6 e =
    let a = test-passed (ltb (length w) 7) 1 (length w ∷ []) _ (no k vs) past-1 e in
    let b = test-passed (not (eqb (get_or w 0 0) 0xF0)) 2 (get_or w 0 0 ∷ []) _ (no k vs) past-2 a.1 in
    let c = test-passed (not (eqb (get_or w (length w - 1) 0) 0xF1)) 3 [] _ (no k vs) past-3 b.1 in (
      enclosed w a.0 b.0 c.0,
      told-before (unstuff 0 (interior w)) (units_rule (length w) (interior w)) k vs (units-tell k not-1 not-5 not-6 (length w) (interior w)) c.1,
    )

-- ---- request 9: room is not asked for, so 8 is never told

escape-not-8 : (o : ℕ) (l vs : List ℕ) → wrong_escape {A = List (ℕ × ℕ)} o l ≡ no 8 vs → ⊥
escape-not-8 o [] vs e = let z : ◌≡◌ {A = ℕ} 12 8 = cc in absurd (let q : ⊥ = omega arith in q)
escape-not-8 o (c ∷ l) vs e = let z : ◌≡◌ {A = ℕ} 4 8 = cc in absurd (let q : ⊥ = omega arith in q)

pub never-8 : (w vs : List ℕ) → check_rule w ≡ no 8 vs → ⊥
never-8 w vs e =
    let t = escapes-told w 8 vs refl refl refl refl refl refl e in
    let f = first_found 0 (interior w) 8 vs t.1 in
    escape-not-8 _ f.behind vs f.told

-- ---- 12, and 4 with its code

pub cut-off-told : (w : List ℕ) (o : ℕ) → CutOff w o → check_rule w ≡ no 12 (o ∷ [])
cut-off-told w o c = wrong-checked w o [] c.0 c.1

pub told-cut-off : (w : List ℕ) (o : ℕ) → check_rule w ≡ no 12 (o ∷ []) → CutOff w o
told-cut-off w o e =
    let t = escapes-told w 12 (o ∷ []) refl refl refl refl refl refl e in
    (t.0, told-cut (interior w) o t.1)

pub wrong-code-told : (w : List ℕ) (o c : ℕ) → WrongCode w o c → check_rule w ≡ no 4 (c ∷ o ∷ [])
wrong-code-told w o c f = wrong-checked w o (c ∷ f.1.rest) f.0 f.1.first

pub told-wrong-code : (w : List ℕ) (o c : ℕ) → check_rule w ≡ no 4 (c ∷ o ∷ []) → WrongCode w o c
told-wrong-code w o c e =
    let t = escapes-told w 4 (c ∷ o ∷ []) refl refl refl refl refl refl e in
    (t.0, told-code (interior w) o c t.1)
