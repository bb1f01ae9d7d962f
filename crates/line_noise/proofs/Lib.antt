-- The laws of one piece and of a run of them; what the program prints; and that the contract allows one reply.
-- A client reads `Printed` and `Contract`: the theorems about the program, and that the code is what they speak of.
pub mod Rules
pub mod Pieces
pub mod Printed
pub mod Reached
pub mod Contract
pub mod Goes
pub mod One
