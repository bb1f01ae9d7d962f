-- What the contract of `check` cites, and every crate that frames pass through.
-- A client reads Rule, and Wrong for where a wire is refused for its escapes; Private is for the private walks.
pub mod Rule
pub mod Wrong
pub mod Rust
pub mod Private
