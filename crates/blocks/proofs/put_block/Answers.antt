-- `put_block` meets its contract: a block that fits is laid over the part where it goes.
-- Its stores one by one leave the same.
use Rattle.std.proofs.Common.{sym, ap, ◌∙◌, length, length-drop, arith}
use Rattle.std.proofs.lemmas.List.{length-take-le}
use Rattle.blocks.proofs.Blocks.{laid-sets}
use Rattle.blocks.proofs.put_block.Goals as goal

pub returns : goal.returns
returns c =
    let a = c.args in
    laid-sets a.buf.now c.copy_from_slice.new.self a.a a.at (omega arith) c.copy_from_slice.ensures.after
    (sym (ap length c.copy_from_slice.ensures.after) ∙ c.copy_from_slice.ensures.len ∙ length-take-le _ _ (rw length-drop (omega arith)) ∙ omega arith)
