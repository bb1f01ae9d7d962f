-- What the contracts of `stuffing`, and the frame rules, cite.
-- One file: the table of codes, stuffing and the sum.
pub mod Stuff
