-- The back is cut first, then the front of what is left.
-- What is left between the two is the text.
use Rattle.std.proofs.Common.{◌≡◌, ℕ, ◌-◌, length, take, sym, ap, ◌∙◌}
use Rattle.std.proofs.Math.Seq.{length-take-le}
use Rattle.shot_text.proofs.Cuts.{long-is, start_is}
use Rattle.shot_text.proofs.ShotText.place.Goals as goal

pub returns : goal.returns
returns c =
    let s = c.args.payload.now in
    let e = c.end_of-end in
    let t = take e.result s in
    let i = c.start_of-start.result in
    let n = long-is s t i c.start_of-start.ensures.0 e.ensures.1 c.start_of-start.ensures.1 in
    let b = start_is s t i c.start_of-start.ensures.0 e.ensures.1 c.start_of-start.ensures.1 in
    let long : length t ≡ e.result = length-take-le e.result s e.ensures.0 in
    λ j. record { start = b j; len = (ap (λ (k : ℕ). k - i) (sym long) ∙ n) j }
