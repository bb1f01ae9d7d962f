-- What the contracts of `line_noise`, and the theorems on what the program `noise` prints, cite.
-- `Piece` is the rule of one piece, `Program` a whole run.
pub mod Piece
pub mod Program
