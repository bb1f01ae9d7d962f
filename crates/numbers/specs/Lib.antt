-- What the contracts of the messages by number cite.
-- Numbers has what a message's numbers are, Asked the answers to a field asked for by number.
pub mod Numbers
pub mod Asked
