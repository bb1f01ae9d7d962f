-- A turn stores one number behind those that stand.
-- After N turns the list is the row.
use Rattle.std.proofs.Common.{◌≡◌, ℕ, ◌+◌, arith}
use Rattle.std.specs.Float.{nan}
use Rattle.flight.specs.Private.{figure_by}
use Rattle.flight.proofs.Row.{Filled, filled_more, filled_is}
use Rattle.flight.proofs.figures.Payload.figures.Goals as goal

pub loop-k-preserved : goal.loop-k-preserved
loop-k-preserved g c = filled_more _ (nan) c.loop-k.invariant (omega arith) c.figure.ensures

pub returns : goal.returns
returns g c =
    let p = c.args.self.now in
    let done : c.loop-k.k ≡ g.row.N = omega arith in
    let all : Filled (λ (j : ℕ). figure_by p.message p.bytes.now p.scale (c.args.number + j)) (nan) g.row.N g.row.N _ = rw done at c.loop-k.invariant in
    filled_is _ (nan) all
