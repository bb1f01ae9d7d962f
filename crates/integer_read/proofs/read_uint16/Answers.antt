-- What is left of `read_uint16`: what `check_len` tells, with the field as its value.
-- The refusal is passed on as it is.
use Rattle.std.proofs.Common.{ap, ◌∙◌}
use Rattle.error.specs.Refusal.{yes}
use Rattle.error.proofs.Passed.{passed-up}
use Rattle.integer.specs.Fields.{be_at}
use Rattle.integer_read.proofs.Turned.{checked}
use Rattle.integer_read.proofs.read_uint16.Goals as goal

pub returns-in_err-check_len : goal.returns-in_err-check_len
returns-in_err-check_len c =
    passed-up c.from_residual.result c.in_err-check_len.field-0.0 c.from_residual.ensures.1
    ∙ checked 2 2 (be_at 2) c.args.«data».now c.args.offset c.check_len.ensures c.in_err-check_len.was

pub returns : goal.returns
returns c =
    ap yes c.uint16_at.ensures
    ∙ checked 2 2 (be_at 2) c.args.«data».now c.args.offset c.check_len.ensures c.in_ok-check_len.was
