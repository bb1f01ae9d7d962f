-- What the contracts of `addr`, and the frame rules, cite of the addresses.
pub mod Address
