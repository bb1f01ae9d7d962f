-- The laws of EC's points.
pub mod Counts
pub mod Asked
pub mod One
