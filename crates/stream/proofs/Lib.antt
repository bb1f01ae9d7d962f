-- The theorems about calls over a stream, and what leads to them.
pub mod Line
pub mod Tally
pub mod Calls
pub mod Stream
pub mod Heard
pub mod Rust
pub mod Contract
pub mod Ends
pub mod Noise
pub mod Cables
