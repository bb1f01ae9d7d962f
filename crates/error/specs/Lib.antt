-- What the contracts of every crate cite of the refusals.
pub mod Refusal
pub mod Result
pub mod Rust
