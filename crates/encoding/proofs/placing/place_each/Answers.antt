-- One byte more of `place_each`: there is room for it, its width is what was noted, and it is stored.
-- What is to come is the stuffed string from the next byte on.
use Rattle.std.proofs.Common.{◌≡◌, ℕ, ◌+◌, ◌<◌, ◌≤◌, List, length, get_or, drop, ap, arith, length-append}
use Rattle.std.proofs.Math.ListN.{length-set}
use Rattle.stuffing.specs.Stuff.{stuff_byte, stuff}
use Rattle.stuffing.proofs.Stuffing.{stuff-at, width}
use Rattle.encoding.proofs.Stores.{byte-stored, stored_on}
use Rattle.encoding.proofs.placing.place_each.Goals as goal

-- there is room for the byte at hand
fits : (s : List ℕ) (k o at n : ℕ) → k < length s → o + length (stuff (drop k s)) ≡ at + length (stuff s) → at + length (stuff s) ≤ n
    → o + length (stuff_byte (get_or s k 0)) ≤ n
fits s k o at n h e r =
    omega (arith, ap length (stuff-at s k h), length-append (stuff_byte (get_or s k 0)) (stuff (drop (k + 1) s)))

pub bounds-buf-o : goal.bounds-buf-o
bounds-buf-o c =
    let i = c.loop-k.invariant in
    omega (
      arith,
      fits c.args.s.now c.loop-k.k c.loop-k.o c.args.at _ c.loop-k-test.true i.0 c.requires.1,
      width (get_or c.args.s.now c.loop-k.k 0),
    )

pub overflow_sub-buf : goal.overflow_sub-buf
overflow_sub-buf c =
    omega (arith, c.requires.2.widths c.loop-k.k c.loop-k-test.true, width (get_or c.args.s.now c.loop-k.k 0))

pub bounds-buf-o-in-loop-k : goal.bounds-buf-o-in-loop-k
bounds-buf-o-in-loop-k c =
    let i = c.loop-k.invariant in
    simp length-set
    (omega (
      arith,
      fits c.args.s.now c.loop-k.k c.loop-k.o c.args.at _ c.loop-k-test.true i.0 c.requires.1,
      c.requires.2.widths c.loop-k.k c.loop-k-test.true,
      width (get_or c.args.s.now c.loop-k.k 0),
    ))

pub loop-k-preserved : goal.loop-k-preserved
loop-k-preserved c =
    let s = c.args.s.now in
    let k = c.loop-k.k in
    let o = c.loop-k.o in
    let i = c.loop-k.invariant in
    let b = get_or s k 0 in
    let span = c.requires.2.widths k c.loop-k-test.true in
    let stored = byte-stored b (get_or c.args.width.now k 0) (get_or c.args.last.now k 0) span (c.requires.2.lasts k c.loop-k-test.true) c.loop-k.buf o in
    let e = stored_on (stuff_byte b) (stuff (drop (k + 1) s)) c.loop-k.buf o (stuff-at s k c.loop-k-test.true)
    (ap (λ (n : ℕ). o + n) span) stored i.0 i.1 i.2 in
    (e.0, e.1, e.2)
