-- `Session::piece` meets its contract: each return is a case of the rule.
-- The state is tested before the counts, and these before the room, as the rule has it.
use Rattle.std.proofs.Common.{sym, ◌∙◌}
use Rattle.session.specs.Piece.{stage}
use Rattle.session.proofs.Rules.{piece-bad, piece-full, piece-short, piece-fits}
use Rattle.session.proofs.Session.piece.Goals as goal

pub returns-then-is_bad : goal.returns-then-is_bad
returns-then-is_bad c =
    let a = c.args in
    piece-bad (stage a.self.now a.hold.now) a.chunk.now a.out.now (sym c.is_bad.ensures ∙ c.if-is_bad.true)

pub returns-then-is_full : goal.returns-then-is_full
returns-then-is_full c =
    let a = c.args in
    piece-full (stage a.self.now a.hold.now) a.chunk.now a.out.now (sym c.is_bad.ensures ∙ c.if-is_bad.false) (sym c.is_full.ensures ∙ c.if-is_full.true)

pub returns-then-got-need : goal.returns-then-got-need
returns-then-got-need c =
    let a = c.args in
    let less = rw c.room_for-need.ensures at c.if-got-need.true in
    rw c.room_for-need.ensures
    (piece-short (stage a.self.now a.hold.now) a.chunk.now a.out.now (sym c.is_bad.ensures ∙ c.if-is_bad.false) (sym c.is_full.ensures ∙ c.if-is_full.false) less)

pub returns : goal.returns
returns c =
    let a = c.args in
    let room = rw c.room_for-need.ensures at c.if-got-need.false in
    c.all_lines.ensures
    ∙ piece-fits (stage a.self.now a.hold.now) a.chunk.now a.out.now (sym c.is_bad.ensures ∙ c.if-is_bad.false) (sym c.is_full.ensures ∙ c.if-is_full.false) room
