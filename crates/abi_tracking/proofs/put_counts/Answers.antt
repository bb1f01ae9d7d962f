-- `put_counts` meets its contract: four times four counts fill the sixteen places, and each is the table's.
-- What stood there before is gone.
use Rattle.std.proofs.Common.{[], ◌∷◌, ◌∙◌}
use Rattle.layout.proofs.Spread.{spread}
use Rattle.tracking.specs.Table.{tracking_of}
use Rattle.abi_tracking.proofs.put_counts.Goals as goal

pub returns : goal.returns
unfolding tracking_of
returns c =
    let three = rw c.put-3.ensures at c.put-4.ensures in
    let two = rw c.put-2.ensures at three in
    let one = rw c.put.ensures at two in
    let all = rw (← spread 16 c.args.counts.now 0 c.told-counts) at one in
    all
    ∙ (λ i.
    c.byte_at.ensures i ∷ c.byte_at-2.ensures i ∷ c.uint24_at.ensures i ∷ c.uint24_at-2.ensures i
    ∷ c.uint24_at-3.ensures i ∷ c.uint24_at-4.ensures i ∷ c.uint24_at-5.ensures i ∷ c.uint16_at.ensures i
    ∷ c.byte_at-3.ensures i ∷ c.byte_at-4.ensures i ∷ c.byte_at-5.ensures i ∷ c.byte_at-6.ensures i
    ∷ c.uint16_at-2.ensures i ∷ c.byte_at-7.ensures i ∷ c.uint16_at-3.ensures i ∷ c.uint16_at-4.ensures i
    ∷ [])
