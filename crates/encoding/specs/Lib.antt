-- What the contract of `encode` cites, and every crate that frames pass through.
-- Wire is the format, Encode the tests before it is written; a client may skip Parts and Private.
pub mod Wire
pub mod Encode
pub mod Parts
pub mod Private
