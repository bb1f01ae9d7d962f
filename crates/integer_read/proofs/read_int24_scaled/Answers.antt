-- What is left of `read_int24_scaled`: what `read_int24` tells, divided once.
-- The number that is divided is the one that its bits stand for; a refusal is passed on.
use Rattle.std.proofs.Common.{rules, ap, ◌∙◌, ℤ, w32}
use mir.ValLaws.{to_z-of_z}
use Rattle.error.specs.Refusal.{yes}
use Rattle.error.specs.Result.{told}
use Rattle.error.proofs.Passed.{passed-up}
use Rattle.integer.specs.Fields.{scaled_by}
use Rattle.integer_read.proofs.Turned.{scaled}
use Rattle.integer_read.proofs.read_int24_scaled.Goals as goal

pub returns-in_err-read_int24 : goal.returns-in_err-read_int24
returns-in_err-read_int24 c =
    let a = c.args in
    passed-up c.from_residual.result c.in_err-read_int24.field-0.0 c.from_residual.ensures.1
    ∙ scaled told 3 3 a.scale a.«data».now a.offset c.read_int24.ensures c.in_err-read_int24.was

pub returns : goal.returns
returns c =
    let a = c.args in
    ap (λ (z : ℤ). yes (scaled_by a.scale z)) (to_z-of_z w32 c.in_ok-read_int24.field-0 (search rules))
    ∙ scaled told 3 3 a.scale a.«data».now a.offset c.read_int24.ensures c.in_ok-read_int24.was
