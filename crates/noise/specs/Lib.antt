-- What the contracts of `noise` cite.
-- One file: what is so between two pieces.
pub mod Line
