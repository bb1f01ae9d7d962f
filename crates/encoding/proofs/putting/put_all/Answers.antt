-- A turn of `put_all`: the plain blocks in front, and the part behind them by its codes.
-- There is room for the part, since there is room for all that is to come.
use Rattle.std.proofs.Common.{◌≡◌, ℕ, ◌+◌, ◌-◌, ◌≤◌, List, ◌++◌, length, take, drop, sym, ap, ◌∙◌, arith, length-append, length-drop, length-take-le, take-append-drop}
use Rattle.std.proofs.Math.Seq.{take_all}
use Rattle.std.proofs.lemmas.List.Edits.{sets}
use Rattle.stuffing.specs.Stuff.{stuff}
use Rattle.stuffing.proofs.Stuffing.{stuff-append, stuff-least}
use Rattle.encoding.proofs.Stores.{stored_on}
use Rattle.encoding.proofs.putting.put_all.Goals as goal

-- the loop's invariant, of any buffer and place, with rest to come
abbrev Inv : List ℕ → List ℕ → ℕ → List ℕ → List ℕ → ℕ → Type 0
Inv s first at buf rest o =
    (o + length (stuff rest) ≡ at + length (stuff s))
    × (sets buf o (stuff rest) ≡ sets first at (stuff s))
    × (length buf ≡ length first)

-- the first n bytes, stuffed, and those behind them
parts : (n : ℕ) (rest : List ℕ) → stuff rest ≡ stuff (take n rest) ++ stuff (drop n rest)
parts n rest = ap stuff (sym (take-append-drop n rest)) ∙ stuff-append (take n rest) (drop n rest)

-- the stuffed bytes of n more are stored
turn : (s first buf buf' rest : List ℕ) (at n o o' : ℕ) → Inv s first at buf rest o
    → o' ≡ o + length (stuff (take n rest)) → buf' ≡ sets buf o (stuff (take n rest)) → Inv s first at buf' (drop n rest) o'
turn s first buf buf' rest at n o o' inv oe be =
    stored_on (stuff (take n rest)) (stuff (drop n rest)) buf o (parts n rest) oe be inv.0 inv.1 inv.2

-- after n plain bytes
between : (s first buf buf' rest : List ℕ) (at n o : ℕ) → Inv s first at buf rest o
    → n ≤ length rest → stuff (take n rest) ≡ take n rest → buf' ≡ sets buf o (take n rest) → Inv s first at buf' (drop n rest) (o + n)
between s first buf buf' rest at n o inv few plain stored =
    let len : n ≡ length (stuff (take n rest)) = sym (ap length plain ∙ length-take-le n rest few) in
    turn s first buf buf' rest at n o (o + n) inv (ap (λ (k : ℕ). o + k) len) (stored ∙ ap (sets buf o) (sym plain))

-- all from n on
behind : (n : ℕ) (rest : List ℕ) → take (length rest - n) (drop n rest) ≡ drop n rest
behind n rest = take_all (length rest - n) (drop n rest) (omega (arith, length-drop n rest))

pub overflow_add-o : goal.overflow_add-o
overflow_add-o c =
    let i = c.loop-rest.invariant in
    omega (arith, c.put_blocks-plain.ensures.0, stuff-least c.loop-rest.rest.now, i.0, i.2, c.requires)

pub put_part-o-requires : goal.put_part-o-requires
put_part-o-requires c =
    let rest = c.loop-rest.rest.now in
    let n = c.put_blocks-plain.result in
    let e = c.put_blocks-plain.ensures in
    let k = c.part_len.result in
    let b = between c.args.s.now c.args.buf.now c.loop-rest.buf c.put_blocks-plain.new.buf rest c.args.at n c.loop-rest.o c.loop-rest.invariant e.0 e.1 e.2 in
    let is : c.split_at.result.0.now ≡ take k (drop n rest) = c.split_at.ensures.front ∙ ap (take k) (behind n rest) in (
      omega (arith, c.split_at.ensures.front_len, c.part_len.ensures.1),
      omega (
        arith,
        ap (λ (l : List ℕ). length (stuff l)) is,
        ap length (parts k (drop n rest)),
        length-append (stuff (take k (drop n rest))) (stuff (drop k (drop n rest))),
        b.0,
        b.2,
        c.requires,
      ),
    )

pub loop-rest-preserved : goal.loop-rest-preserved
loop-rest-preserved c =
    let rest = c.loop-rest.rest.now in
    let n = c.put_blocks-plain.result in
    let e = c.put_blocks-plain.ensures in
    let k = c.part_len.result in
    let b = between c.args.s.now c.args.buf.now c.loop-rest.buf c.put_blocks-plain.new.buf rest c.args.at n c.loop-rest.o c.loop-rest.invariant e.0 e.1 e.2 in
    let is : c.split_at.result.0.now ≡ take k (drop n rest) = c.split_at.ensures.front ∙ ap (take k) (behind n rest) in
    let on : c.split_at.result.1.now ≡ drop k (drop n rest) = c.split_at.ensures.back ∙ ap (drop k) (behind n rest) in
    let o = c.put_part-o.ensures.0 ∙ ap (λ (l : List ℕ). c.loop-rest.o + n + length (stuff l)) is in
    let buf = c.put_part-o.ensures.1 ∙ ap (λ (l : List ℕ). sets c.put_blocks-plain.new.buf (c.loop-rest.o + n) (stuff l)) is in
    rw on
    (turn c.args.s.now c.args.buf.now c.put_blocks-plain.new.buf c.put_part-o.new.buf (drop n rest) c.args.at k (c.loop-rest.o + n) c.put_part-o.result b o buf)
