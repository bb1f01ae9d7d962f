-- `put_blocks` meets its contract: the bytes passed are plain, and stored as they stand.
-- That is the loop's invariant, sixteen bytes to a turn.
use Rattle.std.proofs.Common.{◌≡◌, ◌≤◌, length, take, drop}
use Rattle.std.proofs.lemmas.List.Edits.{sets}
use Rattle.stuffing.specs.Stuff.{stuff}
use Rattle.encoding.proofs.putting.put_blocks.Given as goal

abbrev pub invariant-loop-block : goal.invariant-loop-block
invariant-loop-block l =
    (l.plain ≤ length l.s)
    × (l.rest ≡ drop l.plain l.s)
    × (stuff (take l.plain l.s) ≡ take l.plain l.s)
    × (l.buf ≡ sets l.initial.buf l.at (take l.plain l.s))

abbrev pub decreases-loop-block : goal.decreases-loop-block
decreases-loop-block l = length l.rest
