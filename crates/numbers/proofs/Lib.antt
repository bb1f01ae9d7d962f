-- The laws of the numbers.
-- Laws has scales, shapes and codes, Divisors the list, Past the places past the end, Told the lookup, One that a contract allows one reply.
pub mod Laws
pub mod Divisors
pub mod Past
pub mod Told
pub mod One
