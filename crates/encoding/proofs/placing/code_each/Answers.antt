-- One byte more of `code_each`: both lists are right for it too.
-- What is stored at k is worked out of the byte's code.
use Rattle.std.proofs.Common.{get_or, length, arith, ◌∙◌}
use Rattle.std.proofs.Math.ListN.{length-set}
use Rattle.general.proofs.Stores.{front-more}
use Rattle.stuffing.specs.Stuff.{stuff_byte}
use Rattle.encoding.specs.Private.{last_of}
use Rattle.encoding.proofs.Stores.{width_of}
use Rattle.encoding.proofs.placing.code_each.Goals as goal

pub loop-k-preserved : goal.loop-k-preserved
loop-k-preserved c =
    let s = c.args.s.now in
    let k = c.loop-k.k in
    let i = c.loop-k.invariant in (
      simp length-set i.0,
      simp length-set i.1,
      front-more (λ j. last_of (get_or s j 0)) 0 c.loop-k.last k (omega arith) (c.select.ensures ∙ rw c.escape_code-code.ensures) i.2,
      front-more (λ j. length (stuff_byte (get_or s j 0))) 0 c.loop-k.width k (omega arith)
          (width_of (get_or s k 0) c.escape_code-code.result c.select-in-loop-k.result c.escape_code-code.ensures c.select-in-loop-k.ensures) i.3,
    )
