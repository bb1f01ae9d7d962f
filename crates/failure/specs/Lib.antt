-- What tells a failed shot.
-- Two rules, for D4 and E8 alike.
pub mod League
