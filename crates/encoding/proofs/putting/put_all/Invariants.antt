-- `put_all` meets its contract: what is stored, and the stores to come, are those of the stuffed string.
-- That is the loop's invariant; a turn stores the plain blocks in front, and the part behind them.
use Rattle.std.proofs.Common.{◌≡◌, ◌+◌, length}
use Rattle.std.proofs.lemmas.List.Edits.{sets}
use Rattle.stuffing.specs.Stuff.{stuff}
use Rattle.encoding.proofs.putting.put_all.Given as goal

abbrev pub invariant-loop-rest : goal.invariant-loop-rest
invariant-loop-rest l =
    (l.o + length (stuff l.rest) ≡ l.at + length (stuff l.s))
    × (sets l.buf l.o (stuff l.rest) ≡ sets l.initial.buf l.at (stuff l.s))
    × (length l.buf ≡ length l.initial.buf)

abbrev pub decreases-loop-rest : goal.decreases-loop-rest
decreases-loop-rest l = length l.rest
