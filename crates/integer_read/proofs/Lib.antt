-- The laws of integer fields as a reader tells them, each once over the width.
-- `One` says that each contract allows one reply.
pub mod Turned
pub mod One
