-- `check_interior`: an interior that does not unstuff is refused, and one of fewer than five bytes.
-- The others are tested for their checksum.
use Rattle.std.proofs.Common.{◌≤◌, ◌<◌, length, arith}
use Rattle.checking.proofs.Cases.{few, many}
use Rattle.checking.proofs.Reading.{counted-yes}
use Rattle.checking.proofs.check_interior.Goals as goal

pub check_sum-requires : goal.check_sum-requires
check_sum-requires c =
    let k = counted-yes c.args.s.now c.in_ok-n.n c.in_ok-n.ensures in
    (k.proper, k.count, omega arith)

pub returns-then-n-lt5 : goal.returns-then-n-lt5
returns-then-n-lt5 c =
    let k = counted-yes c.args.s.now c.in_ok-n.n c.in_ok-n.ensures in
    let n : length k.us < 5 = rw (← k.length) c.if-n-lt5.true in
    rw (k.is, few k.us c.args.s.now c.args.whole n)

pub returns : goal.returns
returns c =
    let k = counted-yes c.args.s.now c.in_ok-n.n c.in_ok-n.ensures in
    let n : 5 ≤ length k.us = rw (← k.length) c.if-n-lt5.false in
    rw (k.is, many k.us c.args.s.now c.args.whole n) (rw k.is at c.check_sum.ensures)
