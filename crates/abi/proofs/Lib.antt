-- The laws of an answer that passes to C.
-- One file for each: the laws of `Passed`, that it allows one reply, and what the exported calls do with a record's numbers.
pub mod Laid
pub mod One
pub mod OnePassing
pub mod Passing
pub mod Widened
