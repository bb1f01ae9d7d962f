-- What the contracts of `session`, and the theorems on what the program prints, cite.
-- A client may skip `Private`.
pub mod Lines
pub mod Piece
pub mod Private
pub mod Program
