-- Laws that every crate uses.
pub mod Cases
pub mod Table
pub mod FromFn
pub mod Stores
pub mod One
