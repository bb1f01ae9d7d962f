-- `mvd_prc_data` meets its contract: it tells what `PrcData::decode` tells, as the record's numbers.
-- A refusal leaves both places.
use Rattle.std.proofs.Common.{rules, ap, ◌∙◌}
use mir.Syntax.{w16}
use mir.ValLaws.{to_z-of_z}
use Rattle.error.specs.Refusal.{yes, on_yes}
use Rattle.abi.proofs.Passing.{passed, refuses}
use Rattle.abi_prc.specs.Numbers.{data_numbers}
use Rattle.abi_prc.proofs.mvd_prc_data.Goals as goal

pub returns-in-Ok : goal.returns-in-Ok
returns-in-Ok c =
    let d = c.in-Ok.d in
    passed ((λ i. yes (to_z-of_z w16 d.sequence (search rules) i, d.points)) ∙ ap (on_yes data_numbers) c.in-Ok.ensures) _ _

pub returns-in-Err : goal.returns-in-Err
returns-in-Err c = refuses c.in-Err.e (ap (on_yes data_numbers) c.in-Err.ensures) _ _ c.tell.ensures
