-- `code_each` meets its contract: what is noted so far is right for each byte passed.
-- That is the loop's invariant, for both lists alike.
use Rattle.std.proofs.Common.{◌≡◌, ℕ, ◌<◌, length, get_or}
use Rattle.stuffing.specs.Stuff.{stuff_byte}
use Rattle.encoding.specs.Private.{last_of}
use Rattle.encoding.proofs.placing.code_each.Given as goal

abbrev pub invariant-loop-k : goal.invariant-loop-k
invariant-loop-k l =
    (length l.last ≡ 64)
    × (length l.width ≡ 64)
    × ((j : ℕ) → j < l.k → get_or l.last j 0 ≡ last_of (get_or l.s j 0))
    × ((j : ℕ) → j < l.k → get_or l.width j 0 ≡ length (stuff_byte (get_or l.s j 0)))
