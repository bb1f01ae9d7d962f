-- The laws of unstuffing.
-- Each function's own proof stands in a folder of its name.
pub mod Unstuffing
pub mod Proper
pub mod Parting
pub mod Wrong
pub mod Rust
pub mod One
pub mod Examples
