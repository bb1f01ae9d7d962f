-- What the contracts of every writer of a field cite.
-- One file: a value's bytes, the reply, and the buffer then.
pub mod Writing
