-- `check_head`: DEST, then SRC, each as its byte tells (`told`).
-- The places of the two and of TYPE follow from the widths before them.
use Rattle.std.proofs.Common.{refl, ap, ◌∙◌}
use Rattle.error.proofs.Passed.{passed-up}
use Rattle.addr.specs.Address.{address_rule}
use Rattle.checking.proofs.Reading.{src-proper, src-inside, type-proper, type-inside, head-told}
use Rattle.checking.proofs.check_head.Goals as goal

pub next-from-requires : goal.next-from-requires
next-from-requires c =
    type-inside c.args.body.now c.requires.0 c.requires.1 c.next-src_at.result c.next-src_at.ensures c.next-type_at.result c.next-type_at.ensures

pub value-requires-2 : goal.value-requires-2
value-requires-2 c = (
  src-proper c.args.body.now c.requires.0 c.requires.1 c.next-src_at.result c.next-src_at.ensures,
  src-inside c.args.body.now c.requires.0 c.requires.1 c.next-src_at.result c.next-src_at.ensures,
)

pub value-requires-3 : goal.value-requires-3
value-requires-3 c = (
  type-proper c.args.body.now c.requires.0 c.requires.1 c.next-src_at.result c.next-src_at.ensures c.next-type_at.result c.next-type_at.ensures,
  type-inside c.args.body.now c.requires.0 c.requires.1 c.next-src_at.result c.next-src_at.ensures c.next-type_at.result c.next-type_at.ensures,
)

pub returns-in_err-dest : goal.returns-in_err-dest
returns-in_err-dest c =
    passed-up c.from_residual.result c.in_err-dest.field-0.0 c.from_residual.ensures.1
    ∙ head-told c.args.body.now c.requires.0 c.requires.1 c.next-src_at.result c.next-src_at.ensures c.next-type_at.result c.next-type_at.ensures
    c.args.len _ c.next-from.result _ _
    (c.in_err-dest.ensures ∙ ap address_rule c.value.ensures) refl refl c.next-from.ensures

pub returns-in_err-src : goal.returns-in_err-src
returns-in_err-src c =
    passed-up c.from_residual-in_err-src.result c.in_err-src.field-0.0 c.from_residual-in_err-src.ensures.1
    ∙ head-told c.args.body.now c.requires.0 c.requires.1 c.next-src_at.result c.next-src_at.ensures c.next-type_at.result c.next-type_at.ensures
    c.args.len _ c.next-from.result _ _
    (c.in_ok-dest.ensures ∙ ap address_rule c.value.ensures) (c.in_err-src.ensures ∙ ap address_rule c.value-2.ensures)
    refl c.next-from.ensures

pub returns : goal.returns
returns c =
    head-told c.args.body.now c.requires.0 c.requires.1 c.next-src_at.result c.next-src_at.ensures c.next-type_at.result c.next-type_at.ensures
    c.args.len c.value-3.result c.next-from.result _ _
    (c.in_ok-dest.ensures ∙ ap address_rule c.value.ensures) (c.in_ok-src.ensures ∙ ap address_rule c.value-2.ensures)
    c.value-3.ensures c.next-from.ensures
