-- `put_long` meets its contract: the line is put.
-- A line is at most 128 bytes, so it fits.
use Rattle.session.proofs.Events.{is_put, wrote}
use Rattle.session.proofs.put_long.Goals as goal

pub unwrap-requires : goal.unwrap-requires
unwrap-requires c = is_put _ _ _ _ c.long_line.ensures c.requires

pub returns : goal.returns
returns c = wrote _ _ _ _ c.long_line.ensures c.requires _ c.unwrap.ensures
