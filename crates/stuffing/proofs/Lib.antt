-- The laws of stuffing and of the sum.
-- Each function's own proof stands in a folder of its name.
pub mod Codes
pub mod Stuffing
pub mod Sums
pub mod One
