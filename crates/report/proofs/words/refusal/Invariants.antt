-- `refusal` meets its contract. The invariant: the values from i on stand in front of what stood, each with at most 21 bytes.
use Rattle.std.proofs.Common.{◌≡◌, ◌+◌, ◌*◌, ◌≤◌, ◌++◌, length, drop}
use Rattle.error.specs.Refusal.{values_of}
use Rattle.report.proofs.Values.{values_text}
use Rattle.report.proofs.words.refusal.Given as goal

abbrev pub invariant-loop-i : goal.invariant-loop-i
invariant-loop-i l = record {
  within : l.i ≤ length (values_of l.e);
  bytes : l.line ≡ values_text (drop l.i (values_of l.e)) ++ l.initial.line;
  few : length l.line + 21 * l.i ≤ length l.initial.line + 21 * length (values_of l.e);
}
