-- The laws of one event and of a whole piece; what the program prints; and that the contract allows one reply.
-- A client reads `Printed`, `Buffer` and `Contract`: the theorems about the program, and that the code is what they speak of.
pub mod Events
pub mod Pieces
pub mod Rules
pub mod Printed
pub mod Buffer
pub mod Reached
pub mod Contract
pub mod Goes
pub mod One
