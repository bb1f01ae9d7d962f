-- `block` meets its contract: the first k bytes are the string's, and zeros behind it.
-- `byte_at` tells 0 past the end, as the zeros behind the string do.
use Rattle.std.proofs.Common.{◌≡◌, ◌++◌, length, take}
use Rattle.std.proofs.Math.ListN.{replicate}
use Rattle.blocks.proofs.block.Given as goal

abbrev pub invariant-loop-k : goal.invariant-loop-k
invariant-loop-k l = (length l.x-items ≡ 16) × (take l.k l.x-items ≡ take l.k (l.s ++ replicate 16 0))
