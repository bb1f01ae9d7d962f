-- The laws of D9.
pub mod Fill
pub mod Nonzero
pub mod Sides
pub mod One
