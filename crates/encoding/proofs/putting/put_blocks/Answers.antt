-- Sixteen bytes more of `put_blocks`: they are plain, since their least rank is above 0, and they are stored.
use Rattle.std.proofs.Common.{◌≡◌, ◌+◌, ◌≤◌, length, take, drop, ap, ◌∙◌, arith, length-drop, drop-drop}
use Rattle.stuffing.proofs.Stuffing.{stuff-least}
use Rattle.encoding.proofs.Stores.{plain-on, block_on}
use Rattle.encoding.proofs.putting.put_blocks.Goals as goal

pub loop-block-preserved : goal.loop-block-preserved
loop-block-preserved c =
    let s = c.args.s.now in
    let n = c.loop-block.plain in
    let inv = c.loop-block.invariant in
    let cut = c.in-Some.ensures.cases in
    let is : c.in-Some.block.now ≡ take 16 (drop n s) = cut.0 ∙ ap (take 16) inv.1 in
    let more : n + 16 ≤ length s = omega (arith, cut.2, ap length inv.1, length-drop n s) in
    let room : c.args.at + length s ≤ length c.args.buf.now = omega (arith, stuff-least s) in
    let plain : 1 ≤ c.least_rank.result = omega arith in (
      more,
      cut.1 ∙ ap (drop 16) inv.1 ∙ drop-drop 16 n s,
      plain-on s c.in-Some.block.now n more is inv.2 (c.least_rank.ensures plain),
      block_on s c.in-Some.block.now n more is c.args.buf.now c.loop-block.buf c.put_block.new.buf c.args.at room inv.3 c.put_block.ensures,
    )
