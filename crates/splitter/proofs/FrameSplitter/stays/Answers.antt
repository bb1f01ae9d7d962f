-- `stays` meets its contract: at each `return` the test that led there says which case of `going_on` holds.
-- The bytes that are held are those that `lay` ensures, the counts those that `counted` does.
use Rattle.std.proofs.Common.{◌≡◌, true, sym, ◌∙◌, ◌-◌, length}
use Rattle.std.proofs.lemmas.Bool.{not-true, not-false}
use Rattle.splitter.specs.Feed.{is_kept}
use Rattle.splitter.proofs.Laws.{goes-lost, goes-held}
use Rattle.splitter.proofs.FrameSplitter.stays.Goals as goal

pub returns-then-is_lost : goal.returns-then-is_lost
returns-then-is_lost c =
    let a = c.args in
    goes-lost a.self.now a.hold.now a.chunk.now a.from (length a.chunk.now) c.went_on.result c.went_on.new.self c.counted.result
    (not-true _ (sym c.is_lost.ensures ∙ c.if-is_lost.true)) c.counted.ensures c.went_on.ensures.reply c.went_on.ensures.state

pub returns : goal.returns
returns c =
    let a = c.args in
    let kept : is_kept a.self.now (length a.hold.now) (length a.chunk.now - a.from) ≡ true = not-false _ (sym c.is_lost.ensures ∙ c.if-is_lost.false) in
    goes-held a.self.now a.hold.now a.chunk.now a.from (length a.chunk.now) c.went_on-2.result c.went_on-2.new.self c.counted-2.result kept c.lay.new.dst c.lay.ensures
    c.counted-2.ensures c.went_on-2.ensures.reply c.went_on-2.ensures.state
