-- `FrameSplitter::feed` meets its contract: what its callees ensure, put together by the laws of `feed_rule`.
-- Each return is one case of it: refused twice, ended, or gone on.
use Rattle.std.proofs.Common.{sym, ◌∙◌}
use Rattle.splitter.proofs.Laws.{feed-bad, feed-full, feed-ends, feed-goes-on}
use Rattle.splitter.proofs.FrameSplitter.feed.Goals as goal

pub returns-then-is_bad : goal.returns-then-is_bad
returns-then-is_bad c =
    let a = c.args in
    sym (feed-bad a.self.now a.hold.now a.chunk.now (sym c.is_bad.ensures ∙ c.if-is_bad.true))

pub returns-then-is_full : goal.returns-then-is_full
returns-then-is_full c =
    let a = c.args in
    sym (feed-full a.self.now a.hold.now a.chunk.now (sym c.is_bad.ensures ∙ c.if-is_bad.false) (sym c.is_full.ensures ∙ c.if-is_full.true))

pub returns-then-end-n : goal.returns-then-end-n
returns-then-end-n c =
    let a = c.args in
    c.closes.ensures
    ∙ feed-ends a.self.now a.hold.now a.chunk.now (sym c.is_bad.ensures ∙ c.if-is_bad.false) (sym c.is_full.ensures ∙ c.if-is_full.false)
    c.start-from.result c.find_far-end.result c.start-from.ensures.0 c.find_far-end.ensures c.if-end-n.true

pub returns : goal.returns
returns c =
    let a = c.args in
    c.stays.ensures
    ∙ feed-goes-on a.self.now a.hold.now a.chunk.now (sym c.is_bad.ensures ∙ c.if-is_bad.false) (sym c.is_full.ensures ∙ c.if-is_full.false)
    c.start-from.result c.find_far-end.result c.start-from.ensures.0 c.find_far-end.ensures c.if-end-n.false
