-- `field` meets its contract: what `numbers::field_at` tells lies in the places, or they are kept.
-- The place of the other kind is kept.
use Rattle.std.proofs.Common.{rules, ap}
use mir.Syntax.{w32}
use mir.ValLaws.{to_z-of_z}
use Rattle.error.specs.Refusal.{on_yes}
use Rattle.error.specs.declared.WireError.TheVariants.{PayloadTooShort, NoField}
use Rattle.abi.proofs.Passing.{passed, refuses}
use Rattle.abi_numbers.specs.Question.{placed}
use Rattle.abi_numbers.proofs.field.Goals as goal

pub returns-in-Count : goal.returns-in-Count
returns-in-Count c =
    rw (to_z-of_z w32 c.in-Count.z (search rules))
    (passed (ap (on_yes (placed (c.args.count.now, c.args.figure.now, c.args.is_figure.now))) c.in-Count.ensures) _ _)

pub returns-in-Figure : goal.returns-in-Figure
returns-in-Figure c =
    passed (ap (on_yes (placed (c.args.count.now, c.args.figure.now, c.args.is_figure.now))) c.in-Figure.ensures) _ _

pub returns-in-PayloadTooShort : goal.returns-in-PayloadTooShort
returns-in-PayloadTooShort c =
    refuses (PayloadTooShort _ _ _)
    (ap (on_yes (placed (c.args.count.now, c.args.figure.now, c.args.is_figure.now))) c.in-PayloadTooShort.ensures) _ _
    (rw c.payload_too_short.ensures at c.tell.ensures)

pub returns-in-NoField : goal.returns-in-NoField
returns-in-NoField c =
    refuses (NoField _)
    (ap (on_yes (placed (c.args.count.now, c.args.figure.now, c.args.is_figure.now))) c.in-NoField.ensures) _ _
    c.tell-in-NoField.ensures
