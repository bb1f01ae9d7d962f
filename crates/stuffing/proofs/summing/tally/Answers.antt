-- `tally`: a turn counts a byte more (`turn`), by what that byte becomes.
-- At the end no byte is left, and what was counted is the whole.
use Rattle.std.proofs.Common.{◌≡◌, ℕ, ◌+◌, ◌-◌, ◌%◌, ◌<◌, cond, eqb, List, length, get_or, drop, sym, refl, ap, ◌∙◌, arith, length-append, length-drop, drop_of_length-le}
use Rattle.stuffing.specs.Stuff.{escape_of, stuff_byte, stuff, total, sum16}
use Rattle.stuffing.proofs.Stuffing.{stuff-at, stuff-least}
use Rattle.stuffing.proofs.Sums.{total-append, running, more_of, sum_of}
use Rattle.stuffing.proofs.summing.tally.Goals as goal

-- what is counted before the bytes at i and later, and what these will add
abbrev kept : List ℕ → ℕ → ℕ → ℕ → Type 0
kept s more sum i =
    ((more + (length (stuff (drop i s)) - length (drop i s))) % 65536 ≡ (length (stuff s) - length s) % 65536)
    × ((sum + total (stuff (drop i s))) % 65536 ≡ total (stuff s) % 65536)
    × (more < 65536)
    × (sum < 65536)

-- one turn: a byte more is counted
turn : (s : List ℕ) (i : ℕ) → i < length s → (c : ℕ) → c ≡ escape_of (get_or s i 0)
    → (more x : ℕ) {more' : ℕ} → x ≡ cond (eqb c 0) 0 1 → more' ≡ (more + x) % 65536
    → (more + (length (stuff (drop i s)) - length (drop i s))) % 65536 ≡ (length (stuff s) - length s) % 65536
    → (sum lead : ℕ) {sum' : ℕ} → lead ≡ cond (eqb c 0) (get_or s i 0) 0xFD → (last : ℕ) → last ≡ c → sum' ≡ (sum + (lead + last)) % 65536
    → (sum + total (stuff (drop i s))) % 65536 ≡ total (stuff s) % 65536
    → kept s more' sum' (i + 1)
turn s i h c code more x xe me im sum lead le last ce se is =
    let b = get_or s i 0 in
    let r = stuff (drop (i + 1) s) in
    let l = length (drop (i + 1) s) in
    let q = stuff-at s i h in
    let m : length (stuff (drop i s)) - length (drop i s) ≡ x + (length r - l) =
    omega (arith, ap length q, length-append (stuff_byte b) r, more_of b c code x xe, stuff-least (drop (i + 1) s), length-drop i s, length-drop (i + 1) s) in
    let t : total (stuff (drop i s)) ≡ lead + last + total r =
    ap total q ∙ total-append (stuff_byte b) r ∙ ap (λ (n : ℕ). n + total r) (sym (sum_of b c code lead le last ce)) in (
      running more x (length r - l) me ∙ ap (λ (n : ℕ). (more + n) % 65536) (sym m) ∙ im,
      running sum (lead + last) (total r) se ∙ ap (λ (n : ℕ). (sum + n) % 65536) (sym t) ∙ is,
      omega arith,
      omega arith,
    )

pub loop-b-preserved : goal.loop-b-preserved
loop-b-preserved c =
    turn c.args.s.now c.loop-b.b-index c.loop-b-test.true c.escape_code-c.result c.escape_code-c.ensures
    c.loop-b.more c.from-more.result (c.from-more.ensures ∙ c.select.ensures) refl c.loop-b.invariant.0
    c.loop-b.sum c.from.result (c.from.ensures ∙ c.select-in-loop-b.ensures)
    c.from-in-loop-b.result c.from-in-loop-b.ensures refl c.loop-b.invariant.1

pub returns-clause-sum : goal.returns-clause-sum
unfolding sum16
returns-clause-sum c = omega (arith, simp (drop_of_length-le c.args.s.now c.loop-b-test.false) at c.loop-b.invariant.1)
