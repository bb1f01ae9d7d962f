-- How many values a refusal has, by its number.
-- Its contract cites no other definition of this crate.
pub mod ValueCount
