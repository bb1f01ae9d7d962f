-- The rule of D9.
pub mod Profile
