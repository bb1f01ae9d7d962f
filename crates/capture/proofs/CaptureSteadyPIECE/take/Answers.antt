-- One piece more: it is at most 8,192 bytes long, so there is room for its lines.
-- So what was reached before the call is reached behind it.
use Rattle.std.proofs.Common.{arith}
use Rattle.std.proofs.Math.Logic.{∥∥₁_map}
use Rattle.session.specs.Piece.{stage}
use Rattle.session.proofs.Reached.{goes_further}
use Rattle.session.proofs.Contract.{room-enough}
use Rattle.capture.proofs.CaptureSteadyPIECE.take.Goals as goal

pub returns-clause-further : goal.returns-clause-further
returns-clause-further c =
    let s = c.args.self.now in
    let p = c.piece-reply in
    goes_further (stage s.session s.hold) _ s.lines p.result p.new.self p.new.hold p.new.out p.ensures
    (room-enough _ s.lines (grind arith) (grind arith))

pub invariant_of-self : goal.invariant_of-self
invariant_of-self c =
    let s = c.args.self.now in
    let p = c.piece-reply in
    record {
      between =
          ∥∥₁_map s.between
          (goes_further (stage s.session s.hold) _ s.lines p.result p.new.self p.new.hold p.new.out p.ensures
          (room-enough _ s.lines (grind arith) (grind arith)));
    }
