-- What the contracts of `frame` cite, and every crate that frames pass through.
-- A client reads Wire and Rule, and Parsing for what parsing was in one call; Private is for the private walks.
pub mod Wire
pub mod Rule
pub mod Parsing
pub mod Private
