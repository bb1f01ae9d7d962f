-- One byte more of `least_rank`: it is plain where its rank is above 0.
use Rattle.std.proofs.Common.{◌≡◌, ℕ, ◌+◌, ◌<◌, List, [], ◌∷◌, length, take, get_or, add-one, arith}
use Rattle.std.proofs.Math.Seq.{take-suc}
use Rattle.stuffing.specs.Stuff.{escape_of, stuff}
use Rattle.stuffing.proofs.Codes.{plain}
use Rattle.stuffing.proofs.Stuffing.{stuff-append}
use Rattle.encoding.proofs.ranking.least_rank.Goals as goal

turn : (a : List ℕ) (k : ℕ) → k < length a → stuff (take k a) ≡ take k a → escape_of (get_or a k 0) ≡ 0 → stuff (take (k + 1) a) ≡ take (k + 1) a
turn a k h e c =
    rw (add-one, take-suc a k 0 h, stuff-append (take k a) (get_or a k 0 ∷ []), e, plain (get_or a k 0) c)

pub loop-b-preserved : goal.loop-b-preserved
loop-b-preserved c q =
    turn c.args.block.now c.loop-b.b-index (omega (arith, c.told-block)) (c.loop-b.invariant (omega (arith, q, c.min-least.ensures)))
    (c.rank.ensures (omega (arith, q, c.min-least.ensures)))
