-- The laws of trimming and of searching, what a trim is, and that replies are unique.
pub mod Cuts
pub mod Trimmed
pub mod Finds
pub mod One
