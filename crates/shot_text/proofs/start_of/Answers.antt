-- At a byte that is kept, what is left is what the cut leaves; one that is not kept is cut.
-- At the end nothing is left.
use Rattle.std.proofs.Common.{◌≡◌, [], length, drop, sym, ap, ◌∙◌, arith, add-one, drop_of_length-le}
use Rattle.shot_text.specs.Trim.{cut_front}
use Rattle.shot_text.proofs.Cuts.{front-stops, front-passes}
use Rattle.shot_text.proofs.start_of.Goals as goal

pub returns-then-b-ge32 : goal.returns-then-b-ge32
returns-then-b-ge32 c =
    let l = c.loop-start in
    (omega arith, front-stops _ l.start (omega arith) c.if-b-ge32.true ∙ l.invariant)

pub loop-start-preserved : goal.loop-start-preserved
loop-start-preserved c =
    let l = c.loop-start in
    rw add-one (sym (front-passes _ l.start (omega arith) c.if-b-ge32.false) ∙ l.invariant)

pub returns : goal.returns
unfolding cut_front
returns c =
    let s = c.args.text.now in
    let none : drop c.loop-start.start s ≡ [] = drop_of_length-le s (omega arith) in
    let all : drop (length s) s ≡ [] = drop_of_length-le s (omega arith) in
    (omega arith, all ∙ sym (ap cut_front none) ∙ c.loop-start.invariant)
