-- The tables of EF.
pub mod Tables
pub mod Zeros
