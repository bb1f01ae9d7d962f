-- `mvd_speed_profile` meets its contract: it tells what `SpeedProfile::decode` tells, as the record's numbers.
-- The speeds are as the decoder left them; a refusal leaves the other places.
use Rattle.std.proofs.Common.{ap, ◌∙◌}
use Rattle.error.specs.Refusal.{yes, on_yes}
use Rattle.abi.proofs.Passing.{passed, refuses}
use Rattle.abi_speed_profile.specs.Numbers.{profile_numbers}
use Rattle.abi_speed_profile.proofs.mvd_speed_profile.Goals as goal

pub returns-in-Ok-clause-passed : goal.returns-in-Ok-clause-passed
returns-in-Ok-clause-passed c =
    let p = c.in-Ok.r in
    passed ((λ i. yes (c.profile_whole.ensures i, p.speeds, p.time_interval)) ∙ ap (on_yes profile_numbers) c.in-Ok.ensures.result_value) _ _

pub returns-in-Err-clause-passed : goal.returns-in-Err-clause-passed
returns-in-Err-clause-passed c =
    refuses c.in-Err.e (ap (on_yes profile_numbers) c.in-Err.ensures.result_value) _ _ c.tell.ensures
