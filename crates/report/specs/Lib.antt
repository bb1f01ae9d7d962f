-- What the contracts of `report`, and the program's rule, cite of the lines.
-- `Text` has the numbers, `Line` the lines.
pub mod Text
pub mod Line
