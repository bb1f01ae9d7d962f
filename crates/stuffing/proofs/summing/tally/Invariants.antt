-- The loop of `tally`: what is counted and what the bytes that are left will add make the whole, wrapped.
-- That holds of the count and of the sum alike.
use Rattle.std.proofs.Common.{◌≡◌, ◌+◌, ◌-◌, ◌%◌, ◌<◌, length, drop}
use Rattle.stuffing.specs.Stuff.{stuff, total}
use Rattle.stuffing.proofs.summing.tally.Given as goal

abbrev pub invariant-loop-b : goal.invariant-loop-b
invariant-loop-b l =
    let left = drop l.b-index l.s in
    ((l.more + (length (stuff left) - length left)) % 65536 ≡ (length (stuff l.s) - length l.s) % 65536)
    × ((l.sum + total (stuff left)) % 65536 ≡ total (stuff l.s) % 65536)
    × (l.more < 65536)
    × (l.sum < 65536)
