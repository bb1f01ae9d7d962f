-- `mvd_club_prc_point` meets its contract: it tells what `ClubPrc::point` tells, as the record's numbers.
-- A refusal leaves both lists.
use Rattle.std.proofs.Common.{sym}
use Rattle.abi_club_prc.specs.Numbers.{club_numbers}
use Rattle.abi.proofs.Passing.{shows, hides}
use Rattle.abi_club_prc.proofs.mvd_club_prc_point.Goals as goal

pub returns-in-Ok : goal.returns-in-Ok
returns-in-Ok c =
    let told = c.point-result.ensures in
    shows club_numbers (λ i. (told.result_value i, told.record_value i)) _ _ (sym c.in-Ok.is)
    (λ i. (c.club_whole.ensures i, c.club_figures.ensures i))

pub returns-in-Err : goal.returns-in-Err
returns-in-Err c =
    let told = c.point-result.ensures in
    hides club_numbers (λ i. (told.result_value i, told.record_value i)) _ _ c.in-Err.e (sym c.in-Err.is) c.tell.ensures
