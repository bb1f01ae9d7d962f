-- `has` meets its contract: the chain folds "or" over the block's bytes.
-- That is whether one of them is b.
use Rattle.std.proofs.Common.{◌∙◌, false, ◌||◌, nat_eq, rules, tests}
use Rattle.std.proofs.lemmas.Iterator.{YieldsList-from_slice}
use Rattle.std.proofs.lemmas.Iterator.Consumers.{fold_from_yields_List}
use Rattle.search.proofs.First.{has_is}
use Rattle.search.proofs.has.Goals as goal

pub returns : goal.returns
returns c =
    let a = c.args in
    fold_from_yields_List _ (λ h x. h || nat_eq x a.b) false c.fold.result c.fold.ensures.ran (YieldsList-from_slice a.block.now cc) (λ h x r q k. search (rules, tests))
    ∙ has_is a.b a.block.now
