-- Condition 3 and its parts.
pub mod Upto
pub mod Wires
pub mod Recovery
pub mod Bridge
pub mod Examples
