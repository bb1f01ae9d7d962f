-- That replies are unique, where nothing outside the program decides them.
-- What is read, and whether what is written arrives, is decided outside.
pub mod One
