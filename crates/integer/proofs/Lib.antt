-- The laws of integer fields, each once over the width.
-- Crates above cite them; `One` says that each contract allows one reply.
pub mod BigEndian
pub mod Complement
pub mod Reading
pub mod Part
pub mod One
