-- What the contracts of the exported calls on numbers cite.
-- Which message is asked, and where its answer lies.
pub mod Question
