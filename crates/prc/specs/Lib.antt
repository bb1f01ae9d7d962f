-- The points of EC: how many there are, and what each holds.
pub mod Points
pub mod Zeros
