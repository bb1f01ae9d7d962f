-- What the points of EC and EE share.
pub mod Point
