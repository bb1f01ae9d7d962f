-- The Rust's unstuffing, in `RawFrame::parse` of frame.rs: a lone FD at the interior's end gives code 00.
-- The port's is the same, read as the Rust's (proofs/Rust).
use Rattle.std.specs.Prelude.{ℕ, List, [], ◌∷◌, slice_index_or}
use Rattle.error.specs.Refusal.{Told, no}
use Rattle.unstuffing.specs.Unstuff.{unstuff_by}

-- a wrong escape's code is the byte behind FD, and 00 where there is none
abbrev pub rust_wrong : {A : Type 0} → ℕ → List ℕ → Told A
rust_wrong i l = no 4 (slice_index_or l 0 0x00 ∷ i ∷ [])

abbrev pub rust_unstuff : ℕ → List ℕ → Told (List (ℕ × ℕ))
rust_unstuff i s = unstuff_by rust_wrong i s
