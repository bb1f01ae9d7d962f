-- No number has more than 20 digits, so there is room; one below 2 ^ 8 has three at most.
use Rattle.std.proofs.Common.{length, drop, ap, length-append, length-drop, arith}
use Rattle.std.specs.Fmt.{decimal}
use Rattle.report.proofs.Decimal.{as_written, digits_20, three_digits}
use Rattle.report.proofs.line.Line.decimal.Goals as goal

pub write_digits-self-inside-requires : goal.write_digits-self-inside-requires
write_digits-self-inside-requires c =
    let n = digits_20 c.args.n c.ranges.n.fits in
    let v = ap length c.self.view_is in
    let d = length-drop c.self.inside.from c.self.inside.bytes in
    (grind (arith, n, v, d), grind arith)

pub returns-clause-few : goal.returns-clause-few
returns-clause-few c =
    let w = ap length c.write_digits-self-inside.ensures.written in
    let a = length-append (decimal c.args.n) (drop c.self.inside.from c.self.inside.bytes) in
    omega (arith, digits_20 c.args.n c.ranges.n.fits, w, a, ap length c.self.view_is)

pub returns-clause-small : goal.returns-clause-small
returns-clause-small c h =
    let w = ap length c.write_digits-self-inside.ensures.written in
    let a = length-append (decimal c.args.n) (drop c.self.inside.from c.self.inside.bytes) in
    let n = ap length (as_written c.args.n c.ranges.n.fits) in
    omega (arith, three_digits c.args.n h, n, w, a, ap length c.self.view_is)
