-- What is left of `write_bytes`: what `within` tells is the rule's test.
-- The bytes stand where they were copied to, or the buffer is as it was.
use Rattle.std.proofs.Common.{refl, sym, ap, ◌∙◌, ℕ, ◌+◌, ◌-◌, List, [], ◌∷◌, length}
use borrow.Author.Tests.{leb-true}
use borrow.Rule.Slice.PartMut.{put_mid}
use Rattle.error.specs.Refusal.{no}
use Rattle.integer_write.proofs.Cases.{writes-where, no-room-where}
use Rattle.integer_write.proofs.Runs.{put_back}
use Rattle.integer_write.proofs.write_bytes.Goals as goal

pub returns-then-not-within : goal.returns-then-not-within
returns-then-not-within c =
    let a = c.args in
    let w = no-room-where a.bytes.now a.buf.now a.offset (sym c.within.ensures ∙ c.if-not-within.true) in
    (ap (λ (n : ℕ). no 8 (n ∷ length a.buf.now ∷ [])) c.need_at-need.ensures ∙ sym w.0, sym w.1)

pub returns : goal.returns
returns c =
    let a = c.args in
    let s = a.buf.now in
    let bs = a.bytes.now in
    let end = a.offset + length bs in
    let room = sym c.within.ensures ∙ c.if-not-within.false in
    let w = writes-where bs s a.offset room in (
      sym w.0,
      ap (λ (l : List ℕ). put_mid a.offset (end - a.offset) s l) c.copy_from_slice.ensures.after
          ∙ put_back bs s a.offset end refl (leb-true end (length s) room),
    )
