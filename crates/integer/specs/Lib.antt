-- What the contracts of every reader of a field cite.
-- One file: the number at a place, the need, and a reading with its refusal.
pub mod Fields
