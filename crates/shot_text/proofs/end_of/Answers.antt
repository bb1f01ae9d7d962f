-- At a byte that is kept, the bytes up to it are what the cut leaves; one that is not kept is cut.
-- At the start nothing is left.
use Rattle.std.proofs.Common.{◌≡◌, ℕ, ◌+◌, ◌-◌, take, sym, ap, ◌∙◌, arith}
use Rattle.shot_text.specs.Trim.{cut_front, cut_back}
use Rattle.shot_text.proofs.Cuts.{back-stops, back_passes}
use Rattle.shot_text.proofs.end_of.Goals as goal

pub returns-then-payload-i-ge32 : goal.returns-then-payload-i-ge32
returns-then-payload-i-ge32 c =
    let s = c.args.payload.now in
    let l = c.loop-i in
    let n : l.i - 1 + 1 ≡ l.i = omega arith in
    (omega arith, ap (λ (k : ℕ). take k s) n ∙ back-stops s l.i (omega arith) l.invariant.0 c.if-payload-i-ge32.true ∙ l.invariant.1)

pub loop-i-preserved : goal.loop-i-preserved
loop-i-preserved c =
    let l = c.loop-i in
    (omega arith, sym (back_passes _ l.i (omega arith) l.invariant.0 c.if-payload-i-ge32.false) ∙ l.invariant.1)

pub returns : goal.returns
unfolding cut_front cut_back
returns c =
    let s = c.args.payload.now in
    let n : c.loop-i.i ≡ 0 = omega arith in
    (omega arith, sym (ap (λ (k : ℕ). cut_back (take k s)) n) ∙ c.loop-i.invariant.1)
