-- `start` meets its contract: at once where a frame is open, else at the first F0.
-- Either place lies in the chunk.
use Rattle.std.proofs.Common.{sym, ◌∙◌, arith}
use Rattle.search.proofs.First.{first-le}
use Rattle.splitter.proofs.FrameSplitter.start.Goals as goal

pub returns : goal.returns
returns c = (simp (sym c.is_open.ensures ∙ c.if-is_open.false) c.find.ensures, rw c.find.ensures (first-le _ 0 _ (omega arith)))
