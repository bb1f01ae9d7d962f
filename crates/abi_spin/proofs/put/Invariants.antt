-- After i turns the numbers of i elements and i of the rest are stored.
-- So both lists stand in full at the end.
use Rattle.std.proofs.Common.{◌≡◌, take}
use Rattle.std.proofs.lemmas.List.Edits.{sets}
use Rattle.abi_spin.specs.Numbers.{elements_whole}
use Rattle.abi_spin.proofs.put.Given as goal

abbrev pub invariant-loop-i : goal.invariant-loop-i
invariant-loop-i l = l.whole ≡ sets (sets l.initial.whole 1 (elements_whole (take l.i l.a))) 31 (take l.i l.rest)
