-- What the contracts of `program` cite.
-- One file: what a read answers.
pub mod Counts
