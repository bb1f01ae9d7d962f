-- What the contract of `unstuffed`, and the frame rules, cite.
-- A client reads Unstuff, and Escapes for which escape is the first wrong one; Private is for the private walks.
pub mod Unstuff
pub mod Escapes
pub mod Rust
pub mod Private
