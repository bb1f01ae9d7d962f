-- The laws of EF's numbers on their way to C.
-- And that no two replies are allowed.
pub mod Elements
pub mod Filled
pub mod One
