-- The laws of FLOAT40 written, and read back.
-- `Back` and `FloatBack` are the ones to read: what a read answers after a write.
pub mod Apart
pub mod Means
pub mod Five
pub mod Back
pub mod FloatBack
pub mod Examples
pub mod One
