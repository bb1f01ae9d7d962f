-- E9's numbers as C takes them.
-- Its contracts cite no other definition of this crate.
pub mod Numbers
