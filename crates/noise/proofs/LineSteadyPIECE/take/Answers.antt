-- One piece more: what was reached before the call is reached behind it.
-- A piece that is refused alters nothing.
use Rattle.std.proofs.Math.Logic.{∥∥₁_map}
use Rattle.line_noise.specs.Piece.{between}
use Rattle.line_noise.proofs.Reached.{goes_further}
use Rattle.noise.proofs.LineSteadyPIECE.take.Goals as goal

pub returns-clause-further : goal.returns-clause-further
returns-clause-further c =
    let s = c.args.self.now in
    let t = c.take_all-reply in
    goes_further (between s.splitter s.hold) _ t.result t.new.splitter t.new.hold t.ensures

pub invariant_of-self : goal.invariant_of-self
invariant_of-self c =
    let s = c.args.self.now in
    let t = c.take_all-reply in
    record { between = ∥∥₁_map s.between (goes_further (between s.splitter s.hold) _ t.result t.new.splitter t.new.hold t.ensures) }
