-- `put_frame` meets its contract: the frame is opened, and its line is put.
-- A line is at most 128 bytes, so it fits.
use Rattle.session.proofs.Events.{is_put, wrote}
use Rattle.session.proofs.put_frame.Goals as goal

pub unwrap-requires : goal.unwrap-requires
unwrap-requires c = is_put _ _ _ _ c.frame_line.ensures c.requires

pub returns : goal.returns
returns c = rw (← c.open.ensures) (wrote _ _ _ _ c.frame_line.ensures c.requires _ c.unwrap.ensures)
