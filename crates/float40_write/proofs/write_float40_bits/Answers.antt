-- What is left of `write_float40_bits`: its test is the rule's, and the part that it lays anew is put back.
-- A refusal comes before any byte is laid.
use Rattle.std.proofs.Common.{arith, sym, ap, ◌∙◌, ◌≡◌, ℕ, ◌+◌, ◌-◌, ◌≤◌, List, [], ◌∷◌, length}
use borrow.Rule.Slice.PartMut.{put_mid}
use Rattle.error.specs.Refusal.{no}
use Rattle.integer.specs.Fields.{need_at}
use Rattle.integer_write.proofs.Cases.{writes, no_room}
use Rattle.integer_write.proofs.Runs.{put_back}
use Rattle.float40_write.specs.Writing.{bytes40}
use Rattle.float40_write.proofs.Five.{five}
use Rattle.float40_write.proofs.write_float40_bits.Goals as goal

pub returns-then-got-need : goal.returns-then-got-need
returns-then-got-need c =
    let a = c.args in
    let s = a.buf.now in
    let need = c.need_at-need.ensures ∙ sym (ap (λ (k : ℕ). need_at k a.offset) (five a.bits)) in
    let refused = no_room (bytes40 a.bits) s a.offset (omega (arith, five a.bits)) in
    (ap (λ (k : ℕ). no 8 (k ∷ length s ∷ [])) need ∙ sym refused.0, sym refused.1)

pub returns : goal.returns
returns c =
    let a = c.args in
    let s = a.buf.now in
    let bs = bytes40 a.bits in
    let end : a.offset + 5 ≡ a.offset + length bs = omega (arith, five a.bits) in
    let room : a.offset + 5 ≤ length s = omega arith in (
      sym (writes bs s a.offset (omega (arith, five a.bits))).0,
      ap (λ (l : List ℕ). put_mid a.offset (a.offset + 5 - a.offset) s l) c.lay.ensures ∙ put_back bs s a.offset (a.offset + 5) end room,
    )
