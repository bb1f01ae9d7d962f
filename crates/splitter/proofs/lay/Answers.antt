-- `lay` meets its contract. One byte, or a block, is stored at once; else one more byte is pasted at each turn.
-- At the loop's end all of src is.
use Rattle.std.proofs.Common.{arith, length-set, add-one}
use Rattle.std.proofs.Math.Seq.{paste-suc}
use Rattle.splitter.proofs.Laws.{block-laid}
use Rattle.splitter.proofs.lay.Goals as goal

pub loop-i-preserved : goal.loop-i-preserved
loop-i-preserved c =
    let a = c.args in (
      rw (c.loop-i.invariant.0, add-one c.loop-i.i) (paste-suc a.dst.now a.at a.src.now c.loop-i.i 0 (omega arith) (omega arith)),
      simp length-set (omega arith),
    )

pub returns-then-src-eq16 : goal.returns-then-src-eq16
returns-then-src-eq16 c =
    let a = c.args in
    block-laid a.dst.now c.put_block.new.buf a.at a.src.now c.block.result c.if-src-eq16.true c.requires c.block.ensures c.put_block.ensures
