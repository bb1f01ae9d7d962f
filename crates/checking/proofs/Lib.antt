-- What the rules of a wire imply, and what checking is proved by.
-- Each function's own proof stands in a folder of its name.
pub mod Cases
pub mod Reading
pub mod Checked
pub mod Located
pub mod Rust
pub mod Wrong
pub mod One
