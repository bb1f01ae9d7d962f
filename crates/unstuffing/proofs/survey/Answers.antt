-- `survey`: one pair of neighbours more (`turn`), and the last byte, which has nothing behind it (`ending`).
-- The FDs are counted along.
use Rattle.std.proofs.Common.{◌≡◌, ℕ, suc, ◌+◌, ◌-◌, ◌%◌, ◌<◌, ◌≤◌, cond, eqb, Bool, false, ◌||◌, List, [], ◌∷◌, length, get_or, drop, sym, refl, ap, ◌∙◌, arith, rules, drop_of_length-le, drop-cons}
use Rattle.std.proofs.lemmas.Bool.{or_parts}
use Rattle.std.proofs.lemmas.Option.{unwrap_or-slice_get}
use Rattle.unstuffing.specs.Escapes.{Proper, none}
use Rattle.unstuffing.specs.Private.{kept}
use Rattle.unstuffing.proofs.Proper.{is_fault, proper-pair, proper-last, kept-flag}
use Rattle.unstuffing.proofs.survey.Goals as goal

-- what is known before the pair at i
abbrev Surveyed : List ℕ → ℕ → ℕ → Bool → ℕ → Type 0
Surveyed s last escapes is_wrong i =
    (i - 1 ≤ length s - 1)
    × (is_wrong ≡ false → (is_fault last 0 ≡ false) × (Proper (drop (i - 1) s) → Proper s))
    × ((escapes + kept s) % 65536 ≡ (cond (eqb last 0xFD) 1 0 + (i - 1) + kept (drop (i - 1) s)) % 65536)
    × (escapes < 65536)

-- from the byte before i on
from : (s : List ℕ) (i : ℕ) → 1 ≤ i → i ≤ length s → drop (i - 1) s ≡ get_or s (i - 1) 0 ∷ drop i s
from s i h g =
    let one : suc (i - 1) ≡ i = omega arith in
    drop-cons s (i - 1) 0 (omega arith) ∙ rw one

turn : (s : List ℕ) (last i escapes : ℕ) (is_wrong fault : Bool) {flag : ℕ} → 1 ≤ i → i < length s
    → flag ≡ cond (eqb (get_or s (i - 1) 0) 0xFD) 1 0 → fault ≡ is_fault (get_or s (i - 1) 0) (get_or s i 0)
    → Surveyed s last escapes is_wrong i → Surveyed s last ((escapes + flag) % 65536) (is_wrong || fault) (i + 1)
turn s last i escapes is_wrong fault {flag} h g fe e known =
    let p = get_or s (i - 1) 0 in
    let z : i + 1 - 1 ≡ i = omega arith in
    let d : drop (i - 1) s ≡ p ∷ drop i s = from s i h (omega arith) in
    let k : kept (drop (i - 1) s) + flag ≡ 1 + kept (drop i s) = kept-flag p (drop i s) d fe in (
      omega arith,
      λ q.
          let both = or_parts is_wrong fault q in
          let before = known.1 both.0 in (
            before.0,
            λ r.
                let r' : Proper (get_or s i 0 ∷ drop (suc i) s) = rw (← drop-cons s i 0 g) (rw z at r) in
                before.1 (rw (d, drop-cons s i 0 g) (proper-pair p (get_or s i 0) (drop (suc i) s) (sym e ∙ both.1) r')),
          ),
      rw z (omega (arith, k, known.2)),
      omega arith,
    )

ending : (s : List ℕ) (last i escapes : ℕ) → length s ≤ i → last ≡ get_or s (length s - 1) 0
    → Surveyed s last escapes false i → Proper s × ((escapes + kept s) % 65536 ≡ length s % 65536)
ending [] last i escapes h e known =
    let rest : drop (i - 1) [] ≡ [] = drop_of_length-le {A = ℕ} [] {i = i - 1} (omega arith) in
    let flag-0 : ◌≡◌ {A = ℕ} (cond (eqb last 0xFD) 1 0) 0 = rw e in
    (none, omega (arith, ap kept rest, flag-0, known.2))
ending (x ∷ l) last i escapes h e known =
    let s : List ℕ = x ∷ l in
    let at : i - 1 ≡ length s - 1 = omega (arith, known.0) in
    let d : drop (i - 1) s ≡ last ∷ [] =
    rw at (drop-cons s (length s - 1) 0 (omega arith) ∙ rw (← e, drop_of_length-le s {i = suc (length s - 1)} (omega arith))) in
    let k : kept (drop (i - 1) s) + cond {A = ℕ} (eqb last 0xFD) 1 0 ≡ 1 = kept-flag last [] d refl in (
      (known.1 refl).1 (rw d (proper-last last (known.1 refl).0)),
      omega (arith, k, known.2),
    )

pub loop-i-preserved : goal.loop-i-preserved
loop-i-preserved c =
    turn c.args.s.now c.unwrap_or-last.result c.loop-i.i c.loop-i.escapes c.loop-i.is_wrong c.is_fault-is_wrong-in-loop-i.result
    {flag = c.from-escapes-in-loop-i.result} c.loop-i.auto.i c.loop-i-test.true (search rules) c.is_fault-is_wrong-in-loop-i.ensures c.loop-i.invariant

pub returns-else-is_wrong : goal.returns-else-is_wrong
returns-else-is_wrong c =
    let s = c.args.s.now in
    ending s c.unwrap_or-last.result c.loop-i.i c.loop-i.escapes c.loop-i-test.false
    (c.unwrap_or-last.ensures ∙ rw (c.copied.ensures ∙ c.last.ensures.value) (unwrap_or-slice_get s (length s - 1) 0))
    (rw c.if-is_wrong.false at c.loop-i.invariant)
