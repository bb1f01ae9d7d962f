-- What is left of `TrackingStatus::decode`: the record that `layout::decode` answers is the table's.
-- Both are the same test of the length.
use Rattle.std.proofs.Common.{◌∙◌}
use Rattle.layout.proofs.Lengths.{tabled}
use Rattle.tracking.specs.Table.{tracking_of}
use Rattle.tracking.proofs.TrackingStatus.decode.Goals as goal

pub returns-clause-record_value : goal.returns-clause-record_value
returns-clause-record_value c = c.decode.ensures.record_value ∙ tabled tracking_of 0xE9 82 c.args.payload.now
