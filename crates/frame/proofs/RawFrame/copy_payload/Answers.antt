-- `RawFrame::copy_payload`: a wire is checked, then the room is tested, then its payload is copied.
-- A refusal leaves the buffer as it was, and a success its rest.
use Rattle.std.proofs.Common.{◌≡◌, ℕ, ◌≤◌, List, ◌++◌, length, take, drop, refl, sym, ◌∙◌, arith, length-take-le}
use Rattle.error.specs.declared.WireError.{WireError}
use Rattle.error.specs.Refusal.{yes, on_yes, filled, refused, number_of, values_of}
use Rattle.error.proofs.Passed.{passed-up}
use Rattle.error.proofs.Tells.{part-refused}
use Rattle.checking.specs.declared.Head.{Head}
use Rattle.checking.specs.Rule.{head_of}
use Rattle.frame.specs.Rule.{check_rule, copy_rule}
use Rattle.frame.specs.Private.{raw}
use Rattle.frame.proofs.Cases.{parse-refused, parse-fits}
use Rattle.frame.proofs.Parsed.{Held, held, part_of}
use Rattle.frame.proofs.RawFrame.copy_payload.Goals as goal

-- a wire that a check refuses
module _ (w buf : List ℕ) (why : WireError) (e : refused why ≡ on_yes (head_of w) (check_rule w)) where
  told : on_yes length (copy_rule w (length buf)) ≡ refused why
  told =
      let t = part-refused (head_of w) (check_rule w) (number_of why) (values_of why) (sym e) in
      rw (parse-refused w (length buf) (number_of why) (values_of why) t) refl

  kept-as-it-was : filled (copy_rule w (length buf)) buf ≡ buf
  kept-as-it-was =
      let t = part-refused (head_of w) (check_rule w) (number_of why) (values_of why) (sym e) in
      rw (parse-refused w (length buf) (number_of why) (values_of why) t) refl

-- a head that was answered
module _ (w buf : List ℕ) (head : Head) (e : yes head ≡ on_yes (head_of w) (check_rule w)) where
  seen : Held w head
  seen = held w head e

  -- the payload fits: the buffer, whatever holds the bytes that were copied
  stored : {b : List ℕ} → head.len ≤ length buf → b ≡ raw 0 (part_of w head) → b ++ drop head.len buf ≡ filled (copy_rule w (length buf)) buf
  stored {b} fits q =
      rw (parse-fits w (length buf) seen.value seen.is (omega (arith, seen.len, fits))) (λ j. (q ∙ seen.bytes) j ++ drop (seen.len j) buf)

pub slice_bounds-copy-count : goal.slice_bounds-copy-count
slice_bounds-copy-count c = (seen c.args.wire.now c.args.buf.now c.in_ok-len.field-0 c.in_ok-len.ensures).ordered

pub slice_bounds-copy-start : goal.slice_bounds-copy-start
slice_bounds-copy-start c =
    let h = seen c.args.wire.now c.args.buf.now c.in_ok-len.field-0 c.in_ok-len.ensures in
    omega (arith, h.ordered, h.inside)

pub slice_bounds-copy-end : goal.slice_bounds-copy-end
slice_bounds-copy-end c =
    let h = seen c.args.wire.now c.args.buf.now c.in_ok-len.field-0 c.in_ok-len.ensures in
    omega (arith, h.ordered, h.inside)

pub copy-requires : goal.copy-requires
copy-requires c =
    let h = seen c.args.wire.now c.args.buf.now c.in_ok-len.field-0 c.in_ok-len.ensures in
    let room : length (take c.in_ok-len.field-0.len c.args.buf.now) ≡ c.in_ok-len.field-0.len = length-take-le c.in_ok-len.field-0.len c.args.buf.now (omega (arith, c.if-room-len.false)) in
    (omega (arith, h.count, h.len, room), omega (arith, h.touched, h.len, room))

pub returns-in_err-len : goal.returns-in_err-len
returns-in_err-len c =
    let e = c.in_err-len.field-0.0 in
    record {
      reply = passed-up c.from_residual.result e c.from_residual.ensures.1 ∙ sym (told c.args.wire.now c.args.buf.now e c.in_err-len.ensures);
      bytes = sym (kept-as-it-was c.args.wire.now c.args.buf.now e c.in_err-len.ensures);
    }

pub returns-clause-bytes : goal.returns-clause-bytes
returns-clause-bytes c =
    stored c.args.wire.now c.args.buf.now c.in_ok-len.field-0 c.in_ok-len.ensures (omega (arith, c.if-room-len.false)) c.copy.ensures
