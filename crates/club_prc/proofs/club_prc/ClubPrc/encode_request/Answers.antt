-- What is left of `ClubPrc::encode_request`: no room, or the stride, the index and the zeros in turn.
-- Everything behind them is as it was lent.
use mathlib.Core.Path.{◌∙◌, ap}
use mathlib.Core.List.{List}
use Prim.Native.Nat.{ℕ}
use native.Mathlib.Omega.{arith}
use lib.ListN.{replicate, length-set}
use lib.Seq.{sets}
use Rattle.club_prc.proofs.Requests.{room, no_room, index-fits, zeroed}
use Rattle.club_prc.proofs.club_prc.ClubPrc.encode_request.Goals as goal

pub returns-then-got-lt77-clause-result_value : goal.returns-then-got-lt77-clause-result_value
returns-then-got-lt77-clause-result_value c = (no_room c.args.start_index c.args.buf.now c.if-got-lt77.true).0

pub returns-then-got-lt77-clause-buf_after : goal.returns-then-got-lt77-clause-buf_after
returns-then-got-lt77-clause-buf_after c = (no_room c.args.start_index c.args.buf.now c.if-got-lt77.true).1

pub returns-clause-result_value : goal.returns-clause-result_value
returns-clause-result_value c = (room c.args.start_index c.args.buf.now c.if-got-lt77.false).0

-- the index is never refused, since its place is there
pub returns-in_err-write_uint16-clause-result_value : goal.returns-in_err-write_uint16-clause-result_value
returns-in_err-write_uint16-clause-result_value c =
    absurd (index-fits c.args.start_index c.args.buf.now c.if-got-lt77.false c.in_err-write_uint16.field-0.0 c.in_err-write_uint16.ensures.0)

pub returns-in_err-write_uint16-clause-buf_after : goal.returns-in_err-write_uint16-clause-buf_after
returns-in_err-write_uint16-clause-buf_after c =
    absurd (index-fits c.args.start_index c.args.buf.now c.if-got-lt77.false c.in_err-write_uint16.field-0.0 c.in_err-write_uint16.ensures.0)

pub returns-clause-buf_after : goal.returns-clause-buf_after
returns-clause-buf_after c =
    zeroed c.write_uint16.new.buf c.fill.new.self (omega (arith, length-set c.args.buf.now 0 0x4C)) (c.fill.ensures.after (λ y e. e))
    ∙ ap (λ (b : List ℕ). sets b 3 (replicate 74 0)) c.write_uint16.ensures.1
    ∙ (room c.args.start_index c.args.buf.now c.if-got-lt77.false).1
