-- What the contracts of the exported calls on D4, E8 and ED cite.
-- What stands where in its lists.
pub mod Records
