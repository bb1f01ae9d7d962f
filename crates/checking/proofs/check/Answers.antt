-- `check`: each return is the rule's case.
-- The interior's tests are `check_interior`'s.
use Rattle.std.proofs.Common.{◌≡◌, ◌-◌, length, sym, ◌∙◌, arith}
use Rattle.unstuffing.specs.Unstuff.{unstuff}
use Rattle.checking.specs.Rule.{interior, units_rule}
use Rattle.checking.proofs.Cases.{short, bad-start, bad-end, framed}
use Rattle.checking.proofs.Reading.{head-through}
use Rattle.checking.proofs.check.Goals as goal

pub returns-then-n-lt7 : goal.returns-then-n-lt7
returns-then-n-lt7 c = rw (short c.args.wire.now c.if-n-lt7.true)

pub returns-then-first : goal.returns-then-first
returns-then-first c = rw (bad-start c.args.wire.now c.if-n-lt7.false c.if-first.true)

pub returns-then-wire-end : goal.returns-then-wire-end
returns-then-wire-end c = rw (bad-end c.args.wire.now c.if-n-lt7.false c.if-first.false c.if-wire-end.true)

pub returns : goal.returns
returns c =
    let w = c.args.wire.now in
    let z : length w - 1 - 1 ≡ length w - 2 = omega arith in
    rw (framed w c.if-n-lt7.false c.if-first.false c.if-wire-end.false)
    (rw z at c.check_interior.ensures ∙ sym (head-through (unstuff 0 (interior w)) (units_rule (length w) (interior w))))
