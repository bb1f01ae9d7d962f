-- `mvd_value_count` meets its contract: the list's entry is the count, and past the list it is 0.
-- No refusal has a number past the list.
use Rattle.std.proofs.Common.{◌≡◌, get_or, rules}
use Rattle.abi_error.proofs.Numbered.{counts, entry-counts}
use Rattle.abi_error.proofs.mvd_value_count.Goals as goal

pub returns : goal.returns
returns c =
    let e : c.unwrap_or.result ≡ get_or counts c.args.refusal 0 = search rules in
    rw e (entry-counts c.args.refusal)
