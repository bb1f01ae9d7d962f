-- The laws of the text and of the lines; and that a line's contract allows one reply.
-- The proof of a function stands under its module's name, and its own.
pub mod Decimal
pub mod Values
pub mod Lines
pub mod One
