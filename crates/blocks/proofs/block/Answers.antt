-- One byte more of `block`, by what `byte_at` tells of it.
-- It is the string's byte, or one of the zeros behind.
use Rattle.std.proofs.Common.{◌≡◌, ℕ, ◌+◌, ◌<◌, List, ◌++◌, length, get_or, take, add-one, arith, length-append}
use Rattle.std.proofs.Math.ListN.{replicate, set, length-set}
use Rattle.std.proofs.Math.Seq.{take-suc, take-suc-set}
use Rattle.blocks.proofs.Blocks.{behind}
use Rattle.blocks.proofs.block.Goals as goal

turn : (s a : List ℕ) (k b : ℕ) → k < 16 → length a ≡ 16 → b ≡ get_or s k 0 → take k a ≡ take k (s ++ replicate 16 0)
    → take (k + 1) (set a k b) ≡ take (k + 1) (s ++ replicate 16 0)
turn s a k b g n is e =
    let long : k < length (s ++ replicate 16 0) = omega (arith, length-append s (replicate 16 0)) in
    rw (add-one, take-suc-set a k b (omega arith), e, take-suc (s ++ replicate 16 0) k 0 long, behind s 16 k, is)

pub loop-k-preserved : goal.loop-k-preserved
loop-k-preserved c = (
  simp length-set c.loop-k.invariant.0,
  turn c.args.s.now c.loop-k.x-items c.loop-k.k c.byte_at.result (omega arith) c.loop-k.invariant.0 c.byte_at.ensures c.loop-k.invariant.1,
)
