-- The laws of FLOAT40 read.
-- `Value` is the one to read: what every exponent and mantissa stand for. `Placed` has the law of its bits.
pub mod Signed
pub mod Pow2
pub mod Over
pub mod Value
pub mod Sign
pub mod Halves
pub mod Leading
pub mod Placed
pub mod Made
pub mod Part
pub mod Edges
pub mod One
