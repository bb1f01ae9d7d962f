-- `mvd_prc_point` meets its contract: it tells what `PrcData::point` tells, as the record's numbers.
-- A refusal leaves both lists.
use Rattle.std.proofs.Common.{sym}
use Rattle.abi_prc.specs.Numbers.{prc_numbers}
use Rattle.abi.proofs.Passing.{shows, hides}
use Rattle.abi_prc.proofs.mvd_prc_point.Goals as goal

pub returns-in-Ok : goal.returns-in-Ok
returns-in-Ok c =
    let told = c.point-result.ensures in
    shows prc_numbers (λ i. (told.result_value i, told.record_value i)) _ _ (sym c.in-Ok.is)
    (λ i. (c.prc_whole.ensures i, c.prc_figures.ensures i))

pub returns-in-Err : goal.returns-in-Err
returns-in-Err c =
    let told = c.point-result.ensures in
    hides prc_numbers (λ i. (told.result_value i, told.record_value i)) _ _ c.in-Err.e (sym c.in-Err.is) c.tell.ensures
