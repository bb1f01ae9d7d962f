-- A call takes no more than it is offered.
use Rattle.std.proofs.Common.{rules}
use Rattle.std.specs.declared.result.Result.TheVariants.{Ok}
use Rattle.stream.proofs.Ends.{fed-within}
use Rattle.cables_run.proofs.cable.offer.Goals as goal

pub slice_bounds-rest-count : goal.slice_bounds-rest-count
slice_bounds-rest-count c =
    let l = c.loop in
    fed-within (Ok c.in-Ok.fed) c.feed.new.self c.feed.new.hold l.splitter l.hold l.rest.now c.in-Ok.ensures

pub slice_bounds-rest-start : goal.slice_bounds-rest-start
slice_bounds-rest-start c =
    let l = c.loop in
    let w = fed-within (Ok c.in-Ok.fed) c.feed.new.self c.feed.new.hold l.splitter l.hold l.rest.now c.in-Ok.ensures in
    search rules
