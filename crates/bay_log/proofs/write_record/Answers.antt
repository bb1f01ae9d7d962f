-- The two refusals in their order, then the nine fields, of which none is refused.
-- The nine writes, one behind the other, are the record (proofs/Record).
use Rattle.std.proofs.Common.{ℤ, ◌≤◌, ◌∙◌, ap, length, set, w32, arith}
use Rattle.std.proofs.Math.ListN.{length-set}
use borrow.Author.Tests.{lt-ltb, le-ltb}
use Rattle.error.specs.Refusal.{refused}
use Rattle.integer_write.specs.Writing.{bytes_of, int_bytes, written}
use Rattle.integer_write.proofs.Cases.{writes}
use Rattle.layout.proofs.Held.{held}
use Rattle.numbers.specs.declared.Message.TheVariants.{FlightResult}
use Rattle.numbers.specs.Numbers.{shape_of}
use Rattle.bay_log.specs.Log.{log_rule}
use Rattle.bay_log.proofs.Laid.{room, not-refused}
use Rattle.bay_log.proofs.Record.{record-laid}
use Rattle.bay_log.proofs.write_record.Goals as goal

pub returns-then-got : goal.returns-then-got
unfolding log_rule
returns-then-got c =
    let e = c.payload_too_short.ensures in
    simp (lt-ltb (length c.args.payload.now) (shape_of FlightResult).least c.if-got.true) (λ i. (refused (e i), c.args.buf.now))

pub returns-then-room-lt32 : goal.returns-then-room-lt32
unfolding log_rule
returns-then-room-lt32 c =
    simp (le-ltb (length c.args.payload.now) (shape_of FlightResult).least c.if-got.false, lt-ltb (length c.args.buf.now) 32 (omega arith))

-- where there is room, no write is refused
pub returns-in_err-write_uint32 : goal.returns-in_err-write_uint32
unfolding bytes_of int_bytes
returns-in_err-write_uint32 c = absurd (not-refused _ _ _ _ (omega arith) c.in_err-write_uint32.ensures.0)

pub returns-in_err-write_int24 : goal.returns-in_err-write_int24
unfolding bytes_of int_bytes
returns-in_err-write_int24 c =
    let h : 32 ≤ length (set c.write_uint32.new.buf 4 0xD4) = simp length-set (room _ _ _ c.write_uint32.ensures.1 (omega arith)) in
    absurd (not-refused _ _ _ _ (omega arith) c.in_err-write_int24.ensures.0)

pub returns-in_err-write_shown : goal.returns-in_err-write_shown
unfolding bytes_of int_bytes
returns-in_err-write_shown c =
    let h : 32 ≤ length c.write_int24.new.buf = room _ _ _ c.write_int24.ensures.1 (simp length-set (room _ _ _ c.write_uint32.ensures.1 (omega arith))) in
    absurd (not-refused _ _ _ _ (omega arith) c.in_err-write_shown.ensures.0)

pub returns-in_err-write_shown-2 : goal.returns-in_err-write_shown-2
unfolding bytes_of int_bytes
returns-in_err-write_shown-2 c =
    let h : 32 ≤ length c.write_shown.new.buf = room _ _ _ c.write_shown.ensures.1 (room _ _ _ c.write_int24.ensures.1 (simp length-set (room _ _ _ c.write_uint32.ensures.1 (omega arith)))) in
    absurd (not-refused _ _ _ _ (omega arith) c.in_err-write_shown-2.ensures.0)

pub returns-in_err-write_shown-3 : goal.returns-in_err-write_shown-3
unfolding bytes_of int_bytes
returns-in_err-write_shown-3 c =
    let h : 32 ≤ length c.write_shown-2.new.buf = room _ _ _ c.write_shown-2.ensures.1 (room _ _ _ c.write_shown.ensures.1 (room _ _ _ c.write_int24.ensures.1 (simp length-set (room _ _ _ c.write_uint32.ensures.1 (omega arith))))) in
    absurd (not-refused _ _ _ _ (omega arith) c.in_err-write_shown-3.ensures.0)

pub returns-in_err-write_shown-4 : goal.returns-in_err-write_shown-4
unfolding bytes_of int_bytes
returns-in_err-write_shown-4 c =
    let h : 32 ≤ length c.write_shown-3.new.buf = room _ _ _ c.write_shown-3.ensures.1 (room _ _ _ c.write_shown-2.ensures.1 (room _ _ _ c.write_shown.ensures.1 (room _ _ _ c.write_int24.ensures.1 (simp length-set (room _ _ _ c.write_uint32.ensures.1 (omega arith)))))) in
    absurd (not-refused _ _ _ _ (omega arith) c.in_err-write_shown-4.ensures.0)

pub returns-in_err-write_shown-5 : goal.returns-in_err-write_shown-5
unfolding bytes_of int_bytes
returns-in_err-write_shown-5 c =
    let h : 32 ≤ length c.write_shown-4.new.buf = room _ _ _ c.write_shown-4.ensures.1 (room _ _ _ c.write_shown-3.ensures.1 (room _ _ _ c.write_shown-2.ensures.1 (room _ _ _ c.write_shown.ensures.1 (room _ _ _ c.write_int24.ensures.1 (simp length-set (room _ _ _ c.write_uint32.ensures.1 (omega arith))))))) in
    absurd (not-refused _ _ _ _ (omega arith) c.in_err-write_shown-5.ensures.0)

pub returns : goal.returns
unfolding log_rule bytes_of int_bytes
returns c =
    let a = c.args in
    let b1 = c.write_uint32.new.buf in
    let b8 = c.write_shown-5.new.buf in
    let h : 32 ≤ length b8 =
    room _ _ _ c.write_shown-5.ensures.1 (room _ _ _ c.write_shown-4.ensures.1 (room _ _ _ c.write_shown-3.ensures.1
    (room _ _ _ c.write_shown-2.ensures.1 (room _ _ _ c.write_shown.ensures.1 (room _ _ _ c.write_int24.ensures.1
    (simp length-set (room _ _ _ c.write_uint32.ensures.1 (omega arith)))))))) in
    let last = c.write_int32.ensures.0 ∙ (writes _ b8 28 (omega arith)).0 in
    let e =
    record-laid a.event a.payload.now a.buf.now (omega arith)
    b1 c.write_int24.new.buf c.write_shown.new.buf c.write_shown-2.new.buf c.write_shown-3.new.buf
    c.write_shown-4.new.buf b8 c.write_int32.new.buf
    c.write_uint32.ensures.1
    (c.write_int24.ensures.1 ∙ ap (λ (z : ℤ). written (int_bytes 3 z) (set b1 4 0xD4) 5) (held w32 c.whole.ensures c.whole.type_inv))
    c.write_shown.ensures.1 c.write_shown-2.ensures.1 c.write_shown-3.ensures.1 c.write_shown-4.ensures.1 c.write_shown-5.ensures.1
    (c.write_int32.ensures.1 ∙ ap (λ (z : ℤ). written (int_bytes 4 z) b8 28) (held w32 c.whole-2.ensures c.whole-2.type_inv)) in
    simp (le-ltb (length a.payload.now) (shape_of FlightResult).least c.if-got.false, le-ltb (length a.buf.now) 32 (omega arith))
    (λ i. (last i, e i))
