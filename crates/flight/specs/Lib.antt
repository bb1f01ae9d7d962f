-- What the contracts of the decoders cite.
-- A file of fields for each message, Decoding for their one rule, Zeros for the record beside a refusal; Private is for private contracts.
pub mod Decoding
pub mod Private
pub mod FlightResultFields
pub mod FlightResultV1Fields
pub mod ClubResultFields
pub mod Zeros
pub mod Failure
