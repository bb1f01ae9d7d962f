-- What the contracts of `capture` cite.
-- One file: what is so between two pieces.
pub mod Capture
