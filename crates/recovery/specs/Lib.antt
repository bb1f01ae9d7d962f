-- The statement of condition 3.
pub mod Recovery
