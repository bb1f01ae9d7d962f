-- A turn stores one number behind those that stand.
-- After N turns the list is the row.
use Rattle.std.proofs.Common.{◌≡◌, ℕ, ◌+◌, pos, w32, arith}
use Rattle.layout.proofs.Held.{held}
use Rattle.numbers.specs.Numbers.{whole_of}
use Rattle.flight.proofs.Row.{Filled, filled_more, filled_is}
use Rattle.flight.proofs.figures.Payload.wholes.Goals as goal

pub loop-k-preserved : goal.loop-k-preserved
loop-k-preserved g c = filled_more _ (pos 0) c.loop-k.invariant (omega arith) (held w32 c.whole.ensures c.whole.type_inv)

pub returns : goal.returns
returns g c =
    let p = c.args.self.now in
    let done : c.loop-k.k ≡ g.row.N = omega arith in
    let all : Filled (λ (j : ℕ). whole_of p.message p.bytes.now (c.args.number + j)) (pos 0) g.row.N g.row.N _ = rw done at c.loop-k.invariant in
    filled_is _ (pos 0) all
