-- The laws of refusals and of what an answer tells.
pub mod Decides
pub mod Passed
pub mod Tells
pub mod Rust
pub mod One
