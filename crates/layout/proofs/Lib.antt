-- What the proofs of every decoder use.
-- Each law once, over the table of fields or over the widths.
pub mod Held
pub mod Lengths
pub mod Parts
pub mod Spread
pub mod Alike
pub mod One
