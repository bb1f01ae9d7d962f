-- What is left of `SpinResult::decode`: the record that `layout::decode` answers is the table's.
-- Both are the same test of the length.
use Rattle.std.proofs.Common.{◌∙◌}
use Rattle.layout.proofs.Lengths.{tabled}
use Rattle.spin.specs.Tables.{spin_of}
use Rattle.spin.proofs.SpinResult.decode.Goals as goal

pub returns-clause-record_value : goal.returns-clause-record_value
returns-clause-record_value c = c.decode.ensures.record_value ∙ tabled spin_of 0xEF 138 c.args.payload.now
