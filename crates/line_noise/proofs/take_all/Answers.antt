-- `take_all` meets its contract: each return is a case of the rule.
-- The state is tested before what can be counted, as the rule has it.
use Rattle.std.proofs.Common.{sym, ap, ◌∙◌}
use Rattle.error.specs.Refusal.{yes}
use Rattle.line_noise.specs.Piece.{between, outcome}
use Rattle.line_noise.proofs.Rules.{take-bad, take-full, take-free}
use Rattle.line_noise.proofs.take_all.Goals as goal

pub returns-then-is_bad : goal.returns-then-is_bad
returns-then-is_bad c =
    let a = c.args in
    take-bad (between a.splitter.now a.hold.now) a.chunk.now (sym c.is_bad.ensures ∙ c.if-is_bad.true)

pub returns-then-is_full : goal.returns-then-is_full
returns-then-is_full c =
    let a = c.args in
    take-full (between a.splitter.now a.hold.now) a.chunk.now (sym c.is_bad.ensures ∙ c.if-is_bad.false) (sym c.is_full.ensures ∙ c.if-is_full.true)

pub returns : goal.returns
returns c =
    let a = c.args in
    ap (outcome (yes tt)) c.feed_all.ensures
    ∙ take-free (between a.splitter.now a.hold.now) a.chunk.now (sym c.is_bad.ensures ∙ c.if-is_bad.false) (sym c.is_full.ensures ∙ c.if-is_full.false)
