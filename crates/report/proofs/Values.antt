-- A refusal's values as text, one after the other.
-- No refusal has more than three values (`at-most-3`).
use Rattle.std.proofs.Common.{ℕ, ◌≤◌, List, map, length, lit≤}
use Rattle.error.specs.declared.WireError.{WireError}
use Rattle.error.specs.declared.WireError.TheVariants as refusal
use Rattle.error.specs.Refusal.{values_of}
use Rattle.report.specs.Text.{decimal_of}
use Rattle.report.specs.Line.{spaced}

abbrev pub values_text : List ℕ → List ℕ
values_text vs = spaced (map decimal_of vs)

pub at-most-3 : (e : WireError) → length (values_of e) ≤ 3
at-most-3 (refusal.FrameTooShort len) = lit≤ tt
at-most-3 (refusal.MissingStart got) = lit≤ tt
at-most-3 refusal.MissingEnd = lit≤ tt
at-most-3 (refusal.InvalidEscape code offset) = lit≤ tt
at-most-3 (refusal.ChecksumMismatch expected computed) = lit≤ tt
at-most-3 (refusal.UnknownBusAddr addr) = lit≤ tt
at-most-3 (refusal.PayloadTooShort kind need got) = lit≤ tt
at-most-3 (refusal.NoRoom need got) = lit≤ tt
at-most-3 refusal.BadState = lit≤ tt
at-most-3 (refusal.PayloadTooLong len) = lit≤ tt
at-most-3 (refusal.NoField number) = lit≤ tt
at-most-3 (refusal.CutEscape offset) = lit≤ tt
at-most-3 refusal.CounterFull = lit≤ tt
