-- The addresses' laws.
pub mod Back
pub mod One
