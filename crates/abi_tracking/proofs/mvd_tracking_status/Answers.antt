-- `mvd_tracking_status` meets its contract, on either side of the least length: the numbers of the table, or a refusal that leaves both lists.
-- It tells what `TrackingStatus::decode` tells, since both are the same rule.
use Rattle.std.proofs.Common.{refl, ap, ◌∙◌}
use Rattle.error.specs.Refusal.{refused}
use Rattle.layout.specs.Layout.{zeros}
use Rattle.layout.proofs.Lengths.{short, whole}
use Rattle.tracking.specs.Table.{tracking_of}
use Rattle.abi_tracking.specs.Numbers.{tracking_numbers}
use Rattle.abi.proofs.Passing.{shows, hides}
use Rattle.abi_tracking.proofs.mvd_tracking_status.Goals as goal

pub returns-then-got-lt82 : goal.returns-then-got-lt82
returns-then-got-lt82 c =
    let s = short tracking_of 0xE9 82 _ {r = tracking_of zeros} c.if-got-lt82.true refl in
    let told = ap refused c.payload_too_short.ensures ∙ s.0 in
    hides tracking_numbers (λ i. (told i, s.1 i)) _ _ c.payload_too_short.result refl c.tell.ensures

pub returns : goal.returns
returns c =
    let s = whole tracking_of 0xE9 82 _ c.if-got-lt82.false refl in
    shows tracking_numbers (λ j. (s.0 j, s.1 j)) _ _ refl (λ j. (c.put_counts.ensures j, c.tracking_whole.ensures j))
