-- The laws of the league's rules.
-- Sign serves the proofs; Rules and One are theorems for a reader.
pub mod Sign
pub mod Rules
pub mod One
