-- The relay's laws, proved.
-- One theorem for each record of specs/, and the examples.
pub mod Laws
pub mod Operations
pub mod Fragments
pub mod Examples
