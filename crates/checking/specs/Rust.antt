-- The Rust's `RawFrame::parse`, whose unstuffing tells an escape that is cut off as code 00.
-- The port's tests are the same, read as the Rust's (proofs/Rust).
use Rattle.std.specs.Prelude.{ℕ, List}
use Rattle.error.specs.Refusal.{Told}
use Rattle.unstuffing.specs.Rust.{rust_unstuff}
use Rattle.encoding.specs.Wire.{Fields}
use Rattle.checking.specs.Rule.{check_by}

unfoldable pub rust_parse : List ℕ → Told Fields
rust_parse wire = check_by (rust_unstuff 0) wire
