-- The answer to a search as C takes it.
-- Its contracts cite no other definition of this crate.
pub mod Flags
