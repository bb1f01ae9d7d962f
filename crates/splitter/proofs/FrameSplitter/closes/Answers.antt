-- `closes` meets its contract: at each `return` the tests that led there say which case of `ends` holds.
-- The bytes that are held are those that `lay` ensures, the counts those that `counted` does.
use Rattle.std.proofs.Common.{◌≡◌, true, sym, ◌∙◌, ◌-◌, length}
use Rattle.std.proofs.lemmas.Bool.{not-true, not-false}
use Rattle.splitter.specs.Feed.{is_kept}
use Rattle.splitter.proofs.Laws.{ends-lost, ends-shown, ends_held}
use Rattle.splitter.proofs.FrameSplitter.closes.Goals as goal

pub returns-then-is_lost : goal.returns-then-is_lost
returns-then-is_lost c =
    let a = c.args in
    ends-lost a.self.now a.hold.now a.chunk.now a.from a.to c.ended.result c.ended.new.self c.counted-counts.result (not-true _ (sym c.is_lost.ensures ∙ c.if-is_lost.true))
    c.counted-counts.ensures c.ended.ensures.reply c.ended.ensures.state

pub returns-then-count-eq0 : goal.returns-then-count-eq0
returns-then-count-eq0 c =
    let a = c.args in
    let kept : is_kept a.self.now (length a.hold.now) (a.to - a.from) ≡ true = not-false _ (sym c.is_lost.ensures ∙ c.if-is_lost.false) in
    ends-shown a.self.now a.hold.now a.chunk.now a.from a.to c.ended-then-count-eq0.result c.ended-then-count-eq0.new.self c.counted-counts-2.result kept c.counted-counts-2.ensures
    c.ended-then-count-eq0.ensures.reply c.ended-then-count-eq0.ensures.state c.if-count-eq0.true

pub returns : goal.returns
returns c =
    let a = c.args in
    let kept : is_kept a.self.now (length a.hold.now) (a.to - a.from) ≡ true = not-false _ (sym c.is_lost.ensures ∙ c.if-is_lost.false) in
    ends_held a.self.now a.hold.now a.chunk.now a.from a.to c.ended-2.result c.ended-2.new.self c.counted-counts-2.result kept c.lay.new.dst c.lay.ensures
    c.counted-counts-2.ensures c.ended-2.ensures.reply c.ended-2.ensures.state c.if-count-eq0.false
