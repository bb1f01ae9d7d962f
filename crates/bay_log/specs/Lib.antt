-- What the log's contract cites, and what a figure that it shows is.
-- Log has the record and what writing it does, Nearest what the nearest tenth is.
pub mod Log
pub mod Nearest
