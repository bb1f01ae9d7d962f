-- One call of the splitter in `feed_all`: what is taken moves on, and what is left is what the rule has left to take.
-- A part of the piece goes from an index to the end (`take_rest`).
use Rattle.std.proofs.Common.{◌≡◌, ◌<◌, length, sym, rules, ◌∙◌, arith, length-drop}
use Rattle.std.proofs.lemmas.List.{take_rest}
use Rattle.std.specs.declared.result.Result.TheVariants.{Ok}
use Rattle.splitter.specs.Feed.{given_by}
use Rattle.stream.proofs.Ends.{fed-within}
use Rattle.session.proofs.Pieces.{some, none}
use Rattle.line_noise.specs.Piece.{between, offered}
use Rattle.line_noise.proofs.Pieces.{going, moves, is_fed, goes_on, finished}
use Rattle.line_noise.proofs.feed_all.Goals as goal

pub loop-rest-init : goal.loop-rest-init
loop-rest-init c =
    let a = c.args in
    going (between a.splitter.now a.hold.now) a.chunk.now (record { good = c.requires.0; free = c.requires.1 })

pub unwrap-fed-requires : goal.unwrap-fed-requires
unwrap-fed-requires c =
    let a = c.args in
    let l = c.loop-rest in
    let h : 0 < length l.rest.now = some _ (sym c.is_empty.ensures ∙ c.loop-rest-test.true) in
    is_fed (between a.splitter.now a.hold.now) a.chunk.now l.invariant h c.feed.result c.feed.new.self c.feed.new.hold c.feed.ensures

pub slice_bounds-rest-count : goal.slice_bounds-rest-count
slice_bounds-rest-count c =
    let l = c.loop-rest in
    fed-within (Ok c.unwrap-fed.result) c.feed.new.self c.feed.new.hold l.splitter l.hold l.rest.now (rw c.unwrap-fed.ensures at c.feed.ensures)

pub slice_bounds-rest-start : goal.slice_bounds-rest-start
slice_bounds-rest-start c =
    let l = c.loop-rest in
    let w = fed-within (Ok c.unwrap-fed.result) c.feed.new.self c.feed.new.hold l.splitter l.hold l.rest.now (rw c.unwrap-fed.ensures at c.feed.ensures) in
    search rules

pub loop-rest-smaller : goal.loop-rest-smaller
loop-rest-smaller c =
    let a = c.args in
    let l = c.loop-rest in
    let f = c.unwrap-fed.result in
    let h : 0 < length l.rest.now = some _ (sym c.is_empty.ensures ∙ c.loop-rest-test.true) in
    let e : given_by (Ok f) c.feed.new.self c.feed.new.hold ≡ offered (between l.splitter l.hold) l.rest.now = rw c.unwrap-fed.ensures at c.feed.ensures in
    let m = moves (between a.splitter.now a.hold.now) a.chunk.now l.invariant h (Ok f) c.feed.new.self c.feed.new.hold e in
    rw (take_rest l.rest.now f.taken, length-drop f.taken l.rest.now) (omega (arith, m))

pub loop-rest-preserved : goal.loop-rest-preserved
loop-rest-preserved c =
    let a = c.args in
    let l = c.loop-rest in
    let f = c.unwrap-fed.result in
    let h : 0 < length l.rest.now = some _ (sym c.is_empty.ensures ∙ c.loop-rest-test.true) in
    let e : given_by (Ok f) c.feed.new.self c.feed.new.hold ≡ offered (between l.splitter l.hold) l.rest.now = rw c.unwrap-fed.ensures at c.feed.ensures in
    let more = goes_on (between a.splitter.now a.hold.now) a.chunk.now l.invariant h (Ok f) c.feed.new.self c.feed.new.hold e c.feed.auto.hold in
    rw (take_rest l.rest.now f.taken) more

pub returns : goal.returns
returns c =
    let a = c.args in
    let l = c.loop-rest in
    finished (between a.splitter.now a.hold.now) a.chunk.now l.invariant (none _ (sym c.is_empty.ensures ∙ c.loop-rest-test.false))
