-- What blocks are proved by.
-- `One` says that each contract allows one reply, or one buffer.
pub mod Blocks
pub mod One
