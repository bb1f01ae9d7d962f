-- The line is what the array holds from `from` on, and fits or not.
use Rattle.std.proofs.Common.{◌≡◌, ◌-◌, ◌≤◌, length, take, drop, ap, ◌∙◌, length-drop, arith}
use Rattle.std.proofs.lemmas.List.{take_rest}
use Rattle.report.proofs.Lines.{refused_line, put_line}
use Rattle.report.proofs.line.Line.put.Goals as goal

pub returns-then-got-need : goal.returns-then-got-need
returns-then-got-need c =
    let bytes = c.self.inside.bytes in
    let from = c.self.inside.from in
    let e : take (length bytes - from) (drop from bytes) ≡ c.args.self = take_rest bytes from ∙ c.self.view_is in
    let short : length c.args.self ≤ 128 = grind (arith, ap length c.self.view_is, length-drop from bytes) in
    rw e (refused_line c.args.self c.args.out.now short (rw e at c.if-got-need.true))

pub returns : goal.returns
returns c =
    let bytes = c.self.inside.bytes in
    let from = c.self.inside.from in
    let e : take (length bytes - from) (drop from bytes) ≡ c.args.self = take_rest bytes from ∙ c.self.view_is in
    let short : length c.args.self ≤ 128 = grind (arith, ap length c.self.view_is, length-drop from bytes) in
    rw (c.copy_from_slice.ensures.after, e) (put_line c.args.self c.args.out.now short (rw e at c.if-got-need.false))
