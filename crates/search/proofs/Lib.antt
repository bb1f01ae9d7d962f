-- The laws of where a byte is found.
-- Each function's own proof stands in a folder of its name.
pub mod First
pub mod One
