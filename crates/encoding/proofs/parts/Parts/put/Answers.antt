-- `put` meets its contract: its stores, run after run, are the wire's.
-- There is room for each run, since there is room for the wire; the sum is that of the bytes stored so far.
use Rattle.std.proofs.Common.{◌≡◌, ℕ, ◌+◌, ◌-◌, ◌/◌, ◌%◌, ◌<◌, ◌≤◌, Option, Some, None, List, [], ◌∷◌, length, take, drop, set, refl, ap, ◌∙◌, arith, length-set}
use Rattle.std.specs.Prelude.{IfSome, unwrap_or}
use Rattle.std.specs.Int.{w16, to_be_bytes}
use Rattle.std.proofs.lemmas.List.Edits.{sets}
use Rattle.stuffing.specs.Stuff.{stuff, sum16}
use Rattle.encoding.specs.Wire.{Fields, checksum_of, wire_of}
use Rattle.encoding.specs.Parts.{fields_of, head_of}
use Rattle.encoding.proofs.Writing.{checksum-written, wire-length, wire-stores, two-bytes}
use Rattle.encoding.proofs.parts.Parts.put.Goals as goal

module _ (f : Fields) (head : List ℕ) (is : head ≡ head_of f) (old : List ℕ) (fits : length (wire_of f) ≤ length old) where
  -- there is room for the head and the payload
  short : length (stuff head) + length (stuff f.payload) + 2 ≤ length old
  short = omega (arith, wire-length f head is (checksum_of f) refl)

  -- the head and the payload are stored, b1 and b2 being the buffer and a1 and a2 the places behind them
  module _ (b1 b2 : List ℕ) (a1 a2 : ℕ) (e1 : b1 ≡ sets (set old 0 0xF0) 1 (stuff head)) (f1 : a1 ≡ 1 + length (stuff head))
      (e2 : b2 ≡ sets b1 a1 (stuff f.payload)) (f2 : a2 ≡ a1 + length (stuff f.payload)) where
    ends : a2 ≤ length old
    ends = omega (arith, short, f1, f2)

    -- the sum, whether it was counted before or is that of the bytes stored so far
    sum-is : (checksum : Option ℕ) {n : ℕ} → IfSome checksum (λ k. k ≡ checksum_of f)
        → n ≡ unwrap_or checksum (sum16 (take (a2 - 1) (drop 1 b2))) → n ≡ checksum_of f
    sum-is (Some k) known e = e ∙ known
    sum-is None known e = checksum-written f head is old b1 b2 a1 a2 ends e1 f1 e2 f2 e

    -- its two bytes end where the last mark goes
    module _ (n : ℕ) (sum : n ≡ checksum_of f) (small : n < 65536) (tail : List ℕ) (t : tail ≡ to_be_bytes w16 n) where
      tail-is : tail ≡ n / 256 ∷ n % 256 ∷ []
      tail-is = t ∙ two-bytes n small

      whole : a2 + length (stuff tail) + 1 ≡ length (wire_of f)
      whole = omega (arith, wire-length f head is n sum, ap (λ (l : List ℕ). length (stuff l)) tail-is, f1, f2)

      stores : (b3 : List ℕ) (a3 : ℕ) → b3 ≡ sets b2 a2 (stuff tail) → a3 ≡ a2 + length (stuff tail) → set b3 a3 0xF1 ≡ sets old 0 (wire_of f)
      stores b3 a3 e3 f3 =
          wire-stores f head is n sum old b1 b2 b3 a1 a2 a3 e1 f1 e2 f2
          (e3 ∙ ap (λ (l : List ℕ). sets b2 a2 (stuff l)) tail-is) (f3 ∙ ap (λ (l : List ℕ). a2 + length (stuff l)) tail-is)

pub bounds-wire-0 : goal.bounds-wire-0
bounds-wire-0 c = omega (arith, short (fields_of c.args.self.now) (head_of (fields_of c.args.self.now)) refl c.args.wire.now c.requires.1)

pub put_part-at_payload-requires : goal.put_part-at_payload-requires
put_part-at_payload-requires c =
    let s = short (fields_of c.args.self.now) c.head.result c.head.ensures c.args.wire.now c.requires.1 in
    (omega (arith, ap length c.head.ensures), simp length-set (omega (arith, s)))

pub put_all-at_checksum-requires : goal.put_all-at_checksum-requires
put_all-at_checksum-requires c =
    let s = short (fields_of c.args.self.now) c.head.result c.head.ensures c.args.wire.now c.requires.1 in
    let p = c.put_part-at_payload in
    omega (arith, s, p.ensures.0, p.auto.buf, length-set c.args.wire.now 0 0xF0)

pub slice_bounds-sum_of-end : goal.slice_bounds-sum_of-end
slice_bounds-sum_of-end c =
    let s = short (fields_of c.args.self.now) c.head.result c.head.ensures c.args.wire.now c.requires.1 in
    let p = c.put_part-at_payload in
    let q = c.put_all-at_checksum in
    omega (arith, s, p.ensures.0, q.ensures.0, p.auto.buf, q.auto.buf, length-set c.args.wire.now 0 0xF0)

pub put_part-at_end-requires : goal.put_part-at_end-requires
put_part-at_end-requires c =
    let f = fields_of c.args.self.now in
    let h = c.head in
    let old = c.args.wire.now in
    let p = c.put_part-at_payload in
    let q = c.put_all-at_checksum in
    let sum =
    sum-is f h.result h.ensures old c.requires.1 p.new.buf q.new.buf p.result q.result p.ensures.1 p.ensures.0 q.ensures.1 q.ensures.0
    c.args.plan.checksum c.requires.0 c.sum_of-sum.ensures in
    let all =
    whole f h.result h.ensures old c.requires.1 p.new.buf q.new.buf p.result q.result p.ensures.1 p.ensures.0 q.ensures.1 q.ensures.0
    c.sum_of-sum.result sum c.sum_of-sum.type_inv c.to_be_bytes.result c.to_be_bytes.ensures in (
      omega (arith, ap length c.to_be_bytes.ensures),
      omega (arith, all, p.auto.buf, q.auto.buf, length-set old 0 0xF0, c.requires.1),
    )

pub bounds-wire-at_end : goal.bounds-wire-at_end
bounds-wire-at_end c =
    let f = fields_of c.args.self.now in
    let h = c.head in
    let old = c.args.wire.now in
    let p = c.put_part-at_payload in
    let q = c.put_all-at_checksum in
    let sum =
    sum-is f h.result h.ensures old c.requires.1 p.new.buf q.new.buf p.result q.result p.ensures.1 p.ensures.0 q.ensures.1 q.ensures.0
    c.args.plan.checksum c.requires.0 c.sum_of-sum.ensures in
    let all =
    whole f h.result h.ensures old c.requires.1 p.new.buf q.new.buf p.result q.result p.ensures.1 p.ensures.0 q.ensures.1 q.ensures.0
    c.sum_of-sum.result sum c.sum_of-sum.type_inv c.to_be_bytes.result c.to_be_bytes.ensures in
    omega (arith, all, c.put_part-at_end.ensures.0, p.auto.buf, q.auto.buf, c.put_part-at_end.auto.buf, length-set old 0 0xF0, c.requires.1)

pub overflow_add-result : goal.overflow_add-result
overflow_add-result c =
    let f = fields_of c.args.self.now in
    let h = c.head in
    let old = c.args.wire.now in
    let p = c.put_part-at_payload in
    let q = c.put_all-at_checksum in
    let sum =
    sum-is f h.result h.ensures old c.requires.1 p.new.buf q.new.buf p.result q.result p.ensures.1 p.ensures.0 q.ensures.1 q.ensures.0
    c.args.plan.checksum c.requires.0 c.sum_of-sum.ensures in
    let all =
    whole f h.result h.ensures old c.requires.1 p.new.buf q.new.buf p.result q.result p.ensures.1 p.ensures.0 q.ensures.1 q.ensures.0
    c.sum_of-sum.result sum c.sum_of-sum.type_inv c.to_be_bytes.result c.to_be_bytes.ensures in
    omega (arith, all, c.put_part-at_end.ensures.0, c.requires.1)

pub returns : goal.returns
returns c =
    let f = fields_of c.args.self.now in
    let h = c.head in
    let old = c.args.wire.now in
    let p = c.put_part-at_payload in
    let q = c.put_all-at_checksum in
    let sum =
    sum-is f h.result h.ensures old c.requires.1 p.new.buf q.new.buf p.result q.result p.ensures.1 p.ensures.0 q.ensures.1 q.ensures.0
    c.args.plan.checksum c.requires.0 c.sum_of-sum.ensures in
    let all =
    whole f h.result h.ensures old c.requires.1 p.new.buf q.new.buf p.result q.result p.ensures.1 p.ensures.0 q.ensures.1 q.ensures.0
    c.sum_of-sum.result sum c.sum_of-sum.type_inv c.to_be_bytes.result c.to_be_bytes.ensures in (
      omega (arith, all, c.put_part-at_end.ensures.0),
      stores f h.result h.ensures old c.requires.1 p.new.buf q.new.buf p.result q.result p.ensures.1 p.ensures.0 q.ensures.1 q.ensures.0
          c.sum_of-sum.result sum c.sum_of-sum.type_inv c.to_be_bytes.result c.to_be_bytes.ensures
          c.put_part-at_end.new.buf c.put_part-at_end.result c.put_part-at_end.ensures.1 c.put_part-at_end.ensures.0,
    )
