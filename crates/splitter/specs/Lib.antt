-- What the contracts and the theorems of `splitter` cite.
-- A client may skip `Private`.
pub mod Feed
pub mod Private
