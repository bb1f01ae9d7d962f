-- The reply of EF is unique.
pub mod One
