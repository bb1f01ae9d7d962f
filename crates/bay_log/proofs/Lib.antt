-- The laws of the log.
-- Nearest and Examples say what a shown figure is, Halves how it is worked out; Laid and Record what stands in the buffer; One that a call has one reply.
pub mod Nearest
pub mod Examples
pub mod Halves
pub mod Laid
pub mod Record
pub mod One
