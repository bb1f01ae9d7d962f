-- What the contract of `view` cites.
pub mod View
