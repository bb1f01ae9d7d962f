-- What a decoder's table of fields is written in.
-- One file: a payload and a refusal as sources of fields, and the answer.
pub mod Layout
