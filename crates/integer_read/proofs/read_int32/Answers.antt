-- What is left of `read_int32`: what `check_len` tells, with the field as its value.
-- The refusal is passed on as it is.
use Rattle.std.proofs.Common.{rules, ap, ◌∙◌, w32}
use mir.ValLaws.{to_z-of_z}
use Rattle.error.specs.Refusal.{yes}
use Rattle.error.proofs.Passed.{passed-up}
use Rattle.integer.specs.Fields.{int_at}
use Rattle.integer_read.proofs.Turned.{checked}
use Rattle.integer_read.proofs.read_int32.Goals as goal

pub returns-in_err-check_len : goal.returns-in_err-check_len
returns-in_err-check_len c =
    passed-up c.from_residual.result c.in_err-check_len.field-0.0 c.from_residual.ensures.1
    ∙ checked 5 4 (int_at 4) c.args.«data».now c.args.offset c.check_len.ensures c.in_err-check_len.was

pub returns : goal.returns
returns c =
    ap yes (to_z-of_z w32 c.int32_at.result (search rules) ∙ c.int32_at.ensures)
    ∙ checked 5 4 (int_at 4) c.args.«data».now c.args.offset c.check_len.ensures c.in_ok-check_len.was
