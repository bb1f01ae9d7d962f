-- `all_lines` meets its contract. The invariant: the lines of what is taken are put (`Going`).
-- The measure is what is left of the piece.
use Rattle.std.proofs.Common.{length}
use Rattle.session.specs.Piece.{stage}
use Rattle.session.proofs.Pieces.{Going}
use Rattle.session.proofs.Session.all_lines.Given as goal

abbrev pub invariant-loop-rest : goal.invariant-loop-rest
invariant-loop-rest l =
    Going (stage l.initial.self l.initial.hold) l.chunk l.initial.out (stage l.self l.hold) l.rest l.written l.out

abbrev pub decreases-loop-rest : goal.decreases-loop-rest
decreases-loop-rest l = length l.rest
