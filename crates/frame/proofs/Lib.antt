-- What the frame rules imply.
-- Each function's own proof stands in a folder of its name.
pub mod Cases
pub mod Walking
pub mod Parsed
pub mod Wires
pub mod Round
pub mod Pair
pub mod Rust
pub mod One
pub mod Examples
