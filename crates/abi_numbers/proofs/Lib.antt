-- No two replies are allowed.
-- It is all that this crate proves beside its contracts.
pub mod One
