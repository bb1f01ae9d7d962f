-- `value`: a byte that is not FD stands for itself, and FD for what its code says.
-- A proper string has that code inside.
use Rattle.std.proofs.Common.{sym, ◌∙◌}
use Rattle.checking.proofs.Reading.{escape-inside, value-two}
use Rattle.checking.proofs.value.Goals as goal

pub bounds-s-i-2 : goal.bounds-s-i-2
bounds-s-i-2 c = escape-inside c.args.s.now c.args.i c.requires.0 c.requires.1 c.if-b.false

pub returns : goal.returns
returns c =
    let s = c.args.s.now in
    c.unescape.ensures ∙ sym (value-two s c.args.i (escape-inside s c.args.i c.requires.0 c.requires.1 c.if-b.false) c.if-b.false)
