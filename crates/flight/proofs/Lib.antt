-- The laws of the decoders.
-- Row and Ruled serve the decoders' proofs; ByNumber, Failed and One are theorems for a reader.
pub mod Row
pub mod Ruled
pub mod Decided
pub mod ByNumber
pub mod Failed
pub mod One
