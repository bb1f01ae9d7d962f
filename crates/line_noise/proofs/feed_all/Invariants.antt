-- `feed_all` meets its contract. The invariant: what is left of the piece is what the rule has left to take (`Going`).
-- The measure is what is left of the piece.
use Rattle.std.proofs.Common.{length}
use Rattle.line_noise.specs.Piece.{between}
use Rattle.line_noise.proofs.Pieces.{Going}
use Rattle.line_noise.proofs.feed_all.Given as goal

abbrev pub invariant-loop-rest : goal.invariant-loop-rest
invariant-loop-rest l = Going (between l.initial.splitter l.initial.hold) l.chunk (between l.splitter l.hold) l.rest

abbrev pub decreases-loop-rest : goal.decreases-loop-rest
decreases-loop-rest l = length l.rest
