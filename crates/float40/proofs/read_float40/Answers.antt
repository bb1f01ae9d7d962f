-- What is left of `read_float40`: its test is the rule's, and the part has the five bytes.
-- Where place plus 5 passes the largest usize the need is that, and no length reaches it.
use Rattle.std.proofs.Common.{arith, sym, ap, ◌∙◌, ◌≡◌, ℕ, ◌+◌, ◌-◌, [], ◌∷◌, length, take, drop}
use Rattle.error.specs.Refusal.{yes, no, refused}
use Rattle.integer.proofs.Reading.{reads, refuses}
use Rattle.float40.specs.Float40.{float40_at}
use Rattle.float40.proofs.Part.{from_place, five-bytes}
use Rattle.float40.proofs.read_float40.Goals as goal

pub returns-then-got-need : goal.returns-then-got-need
returns-then-got-need c =
    let a = c.args in
    let s = a.«data».now in
    ap refused c.payload_too_short.ensures
    ∙ ap (λ (n : ℕ). no 7 (7 ∷ n ∷ length s ∷ [])) c.need_at-need.ensures
    ∙ sym (refuses 7 5 float40_at s a.offset (omega arith))

pub returns : goal.returns
returns c =
    let a = c.args in
    let s = a.«data».now in
    let five : a.offset + 5 - a.offset ≡ 5 = omega arith in
    ap yes
    (c.front.ensures ∙ ap (λ (n : ℕ). float40_at (take n (drop a.offset s)) 0) five ∙ five-bytes (drop a.offset s) ∙ from_place s a.offset)
    ∙ sym (reads 7 5 float40_at s a.offset (omega arith))
