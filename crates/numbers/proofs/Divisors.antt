-- The list of divisors keeps document 01's rule: each entry is the code of its number's rule (`listed`, one computed test over the 138); past the last that is the scale's (`rule-past`).
-- Over such an entry a number that is no count is the rule's figure (`kept`). The decoders and the lookup cite the three.
use mathlib.Core.Path.{◌≡◌, refl, ◌∙◌, ap}
use mathlib.Core.List.{List, ◌∷◌, ◌++◌}
use mathlib.Core.Bool.{Bool, false, cond, ◌&&◌, and-false}
use Prim.Native.Nat.{ℕ, ◌+◌, ◌-◌, ◌<◌, ◌≤◌}
use native.Mathlib.Omega.{arith}
use lib.Dec.{eqb, eqb→eq, ltb, leb}
use lib.ListN.{get_or, replicate}
use lib.Ieee.{Float}
use borrow.Author.Tests.{lt-ltb, le-ltb, lt-leb, ne_eqb}
use Rattle.general.proofs.Table.{at}
use Rattle.integer.specs.Fields.{scaled_by}
use Rattle.numbers.specs.declared.Message.{Message}
use Rattle.numbers.specs.declared.Message.TheVariants.{FlightResult, FlightResultV1, ClubResult}
use Rattle.numbers.specs.Numbers.{rule_code, Rule, count, hundredths, thousandths, millionths, scaled, shape_of, count_of, rule_of}
use Rattle.numbers.specs.Numbers.{divisor_of, entry_of, whole_of, scale_of, figure_of}

abbrev pub divisors : List ℕ
divisors =
    0 ∷ replicate 13 1000 ++ replicate 6 0 ++ replicate 16 1000 ++ 0 ∷ replicate 15 1 ++
    0 ∷ replicate 9 1000 ++ 1000000 ∷ 0 ∷ 0 ∷ 1000 ∷ 1000 ∷ 0 ∷ replicate 15 1 ++
    0 ∷ replicate 6 100 ++ replicate 2 1000 ++ replicate 4 100 ++ replicate 2 1000 ++ 0 ∷ replicate 36 1 ++ replicate 3 100

-- the code of entry k: D4's 52 come first, then E8's 31, then ED's
code_at : ℕ → ℕ
unfolding rule_of
code_at k =
    cond (ltb k 52) (rule_code (rule_of FlightResult k))
    (cond (ltb k 83) (rule_code (rule_of FlightResultV1 (k - 52)))
    (rule_code (rule_of ClubResult (k - 83))))

right : ℕ → ℕ → Bool
unfolding code_at
right k x = eqb x (code_at k)

entry : (k : ℕ) → k < 138 → get_or divisors k 0 ≡ code_at k
unfolding right code_at rule_of
entry k h = eqb→eq (get_or divisors k 0) (code_at k) (at right divisors tt k h)

pub inside : (m : Message) (n : ℕ) → n < count_of m → (shape_of m).first + n < 138
inside FlightResult n h = omega arith
inside FlightResultV1 n h = omega arith
inside ClubResult n h = omega arith

pub listed : (m : Message) (n : ℕ) → n < count_of m → get_or divisors ((shape_of m).first + n) 0 ≡ rule_code (rule_of m n)
unfolding code_at
listed FlightResult n h =
    let g : 0 + n ≡ n = omega arith in
    entry (0 + n) (inside FlightResult n h) ∙ simp (g, lt-ltb n 52 h)
listed FlightResultV1 n h =
    let l : 52 + n < 83 = omega arith in
    let g : 52 + n - 52 ≡ n = omega arith in
    entry (52 + n) (inside FlightResultV1 n h) ∙ simp (le-ltb (52 + n) 52 (omega arith), lt-ltb (52 + n) 83 l, g)
listed ClubResult n h =
    let g : 83 + n - 83 ≡ n = omega arith in
    entry (83 + n) (inside ClubResult n h) ∙ simp (le-ltb (83 + n) 52 (omega arith), le-ltb (83 + n) 83 (omega arith), g)

between : (a b n : ℕ) → b < n → (leb a n && leb n b) ≡ false
between a b n h = simp (lt-leb n b h, and-false)

-- past the last number no test of the rule holds, so it is the scale's
pub rule-past : (m : Message) (n : ℕ) → count_of m ≤ n → rule_code (rule_of m n) ≡ 1
unfolding rule_of
rule-past FlightResult n h =
    rw (ne_eqb n 0 (λ e. omega arith), between 14 19 n (omega arith), ne_eqb n 36 (λ e. omega arith), between 1 13 n (omega arith), between 20 35 n (omega arith))
rule-past FlightResultV1 n h =
    rw (
      ne_eqb n 0 (λ e. omega arith),
      ne_eqb n 11 (λ e. omega arith),
      ne_eqb n 12 (λ e. omega arith),
      ne_eqb n 15 (λ e. omega arith),
      ne_eqb n 10 (λ e. omega arith),
      between 1 9 n (omega arith),
      ne_eqb n 13 (λ e. omega arith),
      ne_eqb n 14 (λ e. omega arith),
    )
rule-past ClubResult n h =
    rw (
      ne_eqb n 0 (λ e. omega arith),
      ne_eqb n 15 (λ e. omega arith),
      between 1 6 n (omega arith),
      between 9 12 n (omega arith),
      between 52 54 n (omega arith),
      ne_eqb n 7 (λ e. omega arith),
      ne_eqb n 8 (λ e. omega arith),
      ne_eqb n 13 (λ e. omega arith),
      ne_eqb n 14 (λ e. omega arith),
    )

-- what an entry that is a rule's code stands for
divides : (r : Rule) (s : Float) → (rule_code r ≡ 0 → ⊥) → entry_of (rule_code r) s ≡ divisor_of r s
divides count s e = absurd (e refl)
divides hundredths s e = refl
divides thousandths s e = refl
divides millionths s e = refl
divides scaled s e = refl

pub kept : (m : Message) (p : List ℕ) (n : ℕ) {d : ℕ} → d ≡ rule_code (rule_of m n) → (d ≡ 0 → ⊥)
    → scaled_by (entry_of d (scale_of m p)) (whole_of m p n) ≡ figure_of m p n
unfolding figure_of
kept m p n q t = rw q (ap (λ (x : Float). scaled_by x (whole_of m p n)) (divides (rule_of m n) (scale_of m p) (λ e. t (q ∙ e))))
