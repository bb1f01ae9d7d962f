-- The points of EE: how many there are, what each holds, and the request for more.
pub mod Points
pub mod Request
pub mod Zeros
