-- The table of E9.
pub mod Table
pub mod Zeros
