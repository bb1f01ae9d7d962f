-- One call of the splitter in `all_lines`: what is taken moves on, and the line stands behind those that are put.
-- A part of the piece or of the buffer of lines goes from an index to the end (`take_rest`).
use Rattle.std.proofs.Common.{◌≡◌, ◌-◌, ◌<◌, length, sym, rules, ◌∙◌, arith, length-drop}
use Rattle.std.proofs.lemmas.List.{take_rest}
use Rattle.std.specs.declared.result.Result.TheVariants.{Ok}
use Rattle.splitter.specs.Feed.{given_by}
use Rattle.stream.proofs.Ends.{fed-within}
use Rattle.session.specs.Piece.{stage, fed}
use Rattle.session.proofs.Pieces.{some, none, going, moves, is_fed, goes_on, finished}
use Rattle.session.proofs.Session.all_lines.Goals as goal

pub loop-rest-init : goal.loop-rest-init
loop-rest-init c =
    let a = c.args in
    going (stage a.self.now a.hold.now) a.chunk.now a.out.now c.requires.hold_value.0 c.requires.hold_value.1

pub unwrap-fed-requires : goal.unwrap-fed-requires
unwrap-fed-requires c =
    let a = c.args in
    let l = c.loop-rest in
    let h : 0 < length l.rest.now = some _ (sym c.is_empty.ensures ∙ c.loop-rest-test.true) in
    is_fed (stage a.self.now a.hold.now) a.chunk.now a.out.now l.invariant h c.feed.result c.feed.new.self c.feed.new.hold c.feed.ensures

pub slice_bounds-rest-count : goal.slice_bounds-rest-count
slice_bounds-rest-count c =
    let l = c.loop-rest in
    fed-within (Ok c.unwrap-fed.result) c.feed.new.self c.feed.new.hold l.self.splitter l.hold l.rest.now (rw c.unwrap-fed.ensures at c.feed.ensures)

pub slice_bounds-rest-start : goal.slice_bounds-rest-start
slice_bounds-rest-start c =
    let l = c.loop-rest in
    let w = fed-within (Ok c.unwrap-fed.result) c.feed.new.self c.feed.new.hold l.self.splitter l.hold l.rest.now (rw c.unwrap-fed.ensures at c.feed.ensures) in
    search rules

pub loop-rest-preserved : goal.loop-rest-preserved
loop-rest-preserved c =
    let a = c.args in
    let l = c.loop-rest in
    let t = stage l.self l.hold in
    let f = c.unwrap-fed.result in
    let p = c.put-written in
    let h : 0 < length l.rest.now = some _ (sym c.is_empty.ensures ∙ c.loop-rest-test.true) in
    let e : given_by (Ok f) c.feed.new.self c.feed.new.hold ≡ fed t l.rest.now = rw c.unwrap-fed.ensures at c.feed.ensures in
    let line = rw (take_rest l.out l.written) at p.ensures.line in
    let more =
    goes_on (stage a.self.now a.hold.now) a.chunk.now a.out.now c.requires.chunk_in_bounds l.invariant h f c.feed.new.self c.feed.new.hold e p.new.self p.result p.new.out
    p.ensures.after line (length l.out - l.written) (omega arith) c.feed.auto.hold
    in
    rw (take_rest l.rest.now f.taken) more

pub loop-rest-smaller : goal.loop-rest-smaller
loop-rest-smaller c =
    let a = c.args in
    let l = c.loop-rest in
    let t = stage l.self l.hold in
    let f = c.unwrap-fed.result in
    let h : 0 < length l.rest.now = some _ (sym c.is_empty.ensures ∙ c.loop-rest-test.true) in
    let e : given_by (Ok f) c.feed.new.self c.feed.new.hold ≡ fed t l.rest.now = rw c.unwrap-fed.ensures at c.feed.ensures in
    let m = moves (stage a.self.now a.hold.now) a.chunk.now a.out.now l.invariant h (Ok f) c.feed.new.self c.feed.new.hold e in
    rw (take_rest l.rest.now f.taken, length-drop f.taken l.rest.now) (omega (arith, m))

pub returns : goal.returns
returns c =
    let a = c.args in
    let l = c.loop-rest in
    finished (stage a.self.now a.hold.now) a.chunk.now a.out.now l.invariant (none _ (sym c.is_empty.ensures ∙ c.loop-rest-test.false))
