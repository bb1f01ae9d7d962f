-- `mvd_spin_result` meets its contract: it tells what `SpinResult::decode` tells, as the record's numbers.
-- A refusal leaves both lists.
use Rattle.std.proofs.Common.{sym}
use Rattle.abi_spin.specs.Numbers.{spin_numbers}
use Rattle.abi.proofs.Passing.{shows, hides}
use Rattle.abi_spin.proofs.mvd_spin_result.Goals as goal

pub returns-in-Ok : goal.returns-in-Ok
returns-in-Ok c =
    let told = c.decode-result.ensures in
    shows spin_numbers (λ i. (told.result_value i, told.record_value i)) _ _ (sym c.in-Ok.is)
    (λ i. (c.spin_whole.ensures i, c.spin_figures.ensures i))

pub returns-in-Err : goal.returns-in-Err
returns-in-Err c =
    let told = c.decode-result.ensures in
    hides spin_numbers (λ i. (told.result_value i, told.record_value i)) _ _ c.in-Err.e (sym c.in-Err.is) c.tell.ensures
