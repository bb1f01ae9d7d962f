-- The laws that the points of EC and EE share.
pub mod Asked
pub mod Exact
pub mod Front
pub mod One
