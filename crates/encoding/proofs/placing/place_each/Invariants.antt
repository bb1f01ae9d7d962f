-- `place_each` meets its contract: what is stored, and the stores to come, are those of the stuffed string.
-- That is the loop's invariant, one byte to a turn.
use Rattle.std.proofs.Common.{◌≡◌, ◌+◌, length, drop}
use Rattle.std.proofs.lemmas.List.Edits.{sets}
use Rattle.stuffing.specs.Stuff.{stuff}
use Rattle.encoding.proofs.placing.place_each.Given as goal

abbrev pub invariant-loop-k : goal.invariant-loop-k
invariant-loop-k l =
    (l.o + length (stuff (drop l.k l.s)) ≡ l.at + length (stuff l.s))
    × (sets l.buf l.o (stuff (drop l.k l.s)) ≡ sets l.initial.buf l.at (stuff l.s))
    × (length l.buf ≡ length l.initial.buf)
