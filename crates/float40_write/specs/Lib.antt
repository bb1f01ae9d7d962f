-- What the contracts of every FLOAT40 writer cite.
-- One file: the parts of 64 bits, and the five bytes made of them.
pub mod Writing
