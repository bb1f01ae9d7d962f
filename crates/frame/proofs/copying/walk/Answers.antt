-- `walk`: a place is left for the byte at which the walk stands (`room_here`), and what is written there goes on (`walk-on`).
-- The walk goes one byte to a turn.
use Rattle.std.proofs.Common.{◌≡◌, ℕ, ◌+◌, ◌≤◌, ◌<◌, cond, eqb, List, ◌∷◌, ◌++◌, length, take, get_or, drop, sym, ap, ◌∙◌, add-one, arith, drop-cons, length-set}
use Rattle.unstuffing.specs.Private.{kept}
use Rattle.frame.specs.Private.{stands_for, raw, slots}
use Rattle.frame.proofs.Walking.{slots-step, walk-on}
use Rattle.frame.proofs.copying.walk.Goals as goal

-- the byte at i, and the others
next : (s : List ℕ) (i : ℕ) → i < length s → drop i s ≡ get_or s i 0 ∷ drop (i + 1) s
next s i h = rw add-one (drop-cons s i 0 h)

-- a place is left for the byte at which the walk stands
room_here : (s : List ℕ) (i o n : ℕ) → i < length s → o + slots (drop i s) ≤ n → o < n
room_here s i o n h e = omega (arith, ap slots (next s i h), slots-step (get_or s i 0) (drop (i + 1) s))

pub bounds-buf-o : goal.bounds-buf-o
bounds-buf-o c =
    omega (arith, room_here c.args.s.now c.loop-b.b-index c.loop-b.o (length c.args.buf.now) c.loop-b-test.true c.loop-b.invariant.0, c.loop-b.invariant.3)

pub loop-b-preserved : goal.loop-b-preserved
loop-b-preserved c =
    let s = c.args.s.now in
    let i = c.loop-b.b-index in
    let o = c.loop-b.o in
    let b = get_or s i 0 in
    let e = next s i c.loop-b-test.true in
    let w : c.select-in-loop-b.result ≡ cond (eqb b 0xFD) 0 1 = c.select-in-loop-b.ensures in
    let is : c.select.result ≡ stands_for c.loop-b.p b = c.select.ensures ∙ rw c.unescape.ensures in
    let here : o < length c.loop-b.buf =
    omega (arith, room_here s i o (length c.args.buf.now) c.loop-b-test.true c.loop-b.invariant.0, c.loop-b.invariant.3) in (
      omega (arith, w, ap slots e, slots-step b (drop (i + 1) s), c.loop-b.invariant.0),
      omega (arith, w, ap kept e, c.loop-b.invariant.1),
      rw w
          (walk-on c.loop-b.buf (drop (i + 1) s) c.loop-b.p b o c.select.result is here
          ∙ ap (λ (r : List ℕ). take o c.loop-b.buf ++ raw c.loop-b.p r) (sym e)) ∙ c.loop-b.invariant.2,
      simp length-set c.loop-b.invariant.3,
    )
