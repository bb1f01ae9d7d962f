-- What is left of `check_len`: what `within` tells is the rule's test.
-- A refusal has the need that `need_at` tells, and the length.
use Rattle.std.proofs.Common.{sym, ap, ◌∙◌, ℕ, ◌+◌, [], ◌∷◌, length}
use lib.Dec.{leb}
use Rattle.error.specs.Refusal.{no, refused}
use Rattle.integer.specs.Fields.{need_at}
use Rattle.integer.proofs.Reading.{reads-where, refuses-where}
use Rattle.integer_read.specs.Private.{kind_of, width_of}
use Rattle.integer_read.proofs.check_len.Goals as goal

pub returns-then-within : goal.returns-then-within
returns-then-within c =
    let a = c.args in
    let s = a.«data».now in
    let fits = ap (λ (k : ℕ). leb (a.offset + k) (length s)) (sym c.width-width.ensures) ∙ sym c.within.ensures ∙ c.if-within.true in
    sym (reads-where (kind_of a.field) (width_of a.field) (λ s at. tt) s a.offset fits)

pub returns : goal.returns
returns c =
    let a = c.args in
    let s = a.«data».now in
    let cut = ap (λ (k : ℕ). leb (a.offset + k) (length s)) (sym c.width-width.ensures) ∙ sym c.within.ensures ∙ c.if-within.false in
    let need = c.need_at-need.ensures ∙ ap (λ (k : ℕ). need_at k a.offset) c.width-width.ensures in
    ap refused c.payload_too_short.ensures
    ∙ (λ i. no 7 (c.kind.ensures i ∷ need i ∷ length s ∷ []))
    ∙ sym (refuses-where (kind_of a.field) (width_of a.field) (λ s at. tt) s a.offset cut)
