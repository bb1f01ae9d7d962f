-- The reply of E9 is unique.
pub mod One
