-- What the contracts of `reader` cite: the moves, and the head that a run of them reads.
-- The refusals are those of a reading in `integer`.
pub mod Moves
pub mod Point
