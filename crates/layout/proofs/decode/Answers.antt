-- What is left of `decode`: reply and record on either side of the least length.
-- Too short is refused, beside the default record; else the record is what the bytes fill.
use Rattle.std.proofs.Common.{◌≤◌, ◌<◌, length, arith}
use borrow.Author.Tests.{lt-ltb, le-ltb}
use Rattle.layout.specs.Layout.{answered, record_of}
use Rattle.layout.proofs.decode.Goals as goal

pub returns-then-got-LEAST-clause-result_value : goal.returns-then-got-LEAST-clause-result_value
unfolding answered
returns-then-got-LEAST-clause-result_value g c =
    let h : length c.args.payload.now < g.R.Record.LEAST = omega arith in
    rw (c.payload_too_short.ensures, lt-ltb (length c.args.payload.now) g.R.Record.LEAST h, c.KIND.ensures, c.LEAST-then-got-LEAST.ensures)

pub returns-then-got-LEAST-clause-record_value : goal.returns-then-got-LEAST-clause-record_value
unfolding record_of
returns-then-got-LEAST-clause-record_value g c =
    let h : length c.args.payload.now < g.R.Record.LEAST = omega arith in
    rw (lt-ltb (length c.args.payload.now) g.R.Record.LEAST h) (g.met.R.Record.default_is_nothing c.default.result c.default.ensures)

pub returns-clause-result_value : goal.returns-clause-result_value
unfolding answered
returns-clause-result_value g c =
    let h : g.R.Record.LEAST ≤ length c.args.payload.now = omega arith in
    rw (le-ltb (length c.args.payload.now) g.R.Record.LEAST h)

pub returns-clause-record_value : goal.returns-clause-record_value
unfolding record_of
returns-clause-record_value g c =
    let h : g.R.Record.LEAST ≤ length c.args.payload.now = omega arith in
    rw (le-ltb (length c.args.payload.now) g.R.Record.LEAST h) c.read.ensures
