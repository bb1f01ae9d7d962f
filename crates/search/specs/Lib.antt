-- What the contracts of `search` cite.
-- One file: where a byte is, and whether.
pub mod First
