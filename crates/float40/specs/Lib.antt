-- What the contracts of every FLOAT40 reader cite.
-- A client reads Float40: the power of two, the product, and the value at a place. Private is for the bits.
pub mod Float40
pub mod Private
