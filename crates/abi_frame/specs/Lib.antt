-- How a frame passes to C.
-- Its contracts cite no other definition of this crate.
pub mod Frames
