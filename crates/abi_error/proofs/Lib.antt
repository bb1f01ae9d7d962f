-- The count by number, and that no two replies are allowed.
-- It is all that this crate proves beside its contract.
pub mod Numbered
pub mod One
