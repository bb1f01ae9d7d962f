-- The laws of integer fields written, and read back, each once over the width.
-- `One` says that each contract allows one reply and one buffer.
pub mod Bits
pub mod Bytes
pub mod Cases
pub mod Runs
pub mod Back
pub mod One
