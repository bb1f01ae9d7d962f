-- The laws of a text that is laid.
-- And that no two replies are allowed.
pub mod Laid
pub mod One
