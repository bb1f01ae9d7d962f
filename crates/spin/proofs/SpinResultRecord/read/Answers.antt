-- What is left of `read`: the first 138 bytes of a shorter payload are all of it.
-- Of any other the part is what the table reads.
use Rattle.std.proofs.Common.{List, ℕ, ◌∙◌, ap, sym, take_all, length, ◌≤◌, arith}
use Rattle.layout.specs.Layout.{fields_of}
use Rattle.spin.specs.Tables.{spin_of}
use Rattle.spin.proofs.SpinResultRecord.read.Goals as goal

pub returns-then-payload-lt138 : goal.returns-then-payload-lt138
returns-then-payload-lt138 c =
    let p = c.args.payload.now in
    let h : length p ≤ 138 = omega arith in
    c.fields.ensures ∙ ap (λ (d : List ℕ). spin_of (fields_of d)) (sym (take_all 138 p h))
