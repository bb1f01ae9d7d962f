-- How the splitter's state and answer pass to C.
-- Its contracts cite no other definition of this crate.
pub mod Fed
