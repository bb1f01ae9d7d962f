-- The laws of EE's points and of the request.
pub mod Counts
pub mod Requests
pub mod One
