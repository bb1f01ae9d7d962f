-- `list` meets its contract: it tells what the decoder told, and lists its record.
-- A refusal leaves both lists.
use Rattle.std.proofs.Common.{refl, sym}
use Rattle.abi.specs.Answer.{both}
use Rattle.abi.proofs.Passing.{shows, hides}
use Rattle.abi_flight.proofs.list.Goals as goal

pub returns-in-Ok : goal.returns-in-Ok
returns-in-Ok g c =
    shows (both g.R.Listed.whole_of g.R.Listed.figures_of) {r = c.args.d.«record»} refl _ _ (sym c.in-Ok.is) (λ i. (c.whole.ensures i, c.figures.ensures i))

pub returns-in-Err : goal.returns-in-Err
returns-in-Err g c =
    hides (both g.R.Listed.whole_of g.R.Listed.figures_of) {r = c.args.d.«record»} refl _ _ c.in-Err.e (sym c.in-Err.is) c.tell.ensures
