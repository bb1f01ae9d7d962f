-- What encoding is proved by.
-- Each function's own proof stands in a folder of its name.
pub mod Cases
pub mod Stores
pub mod Writing
pub mod One
