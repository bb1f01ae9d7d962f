-- What the theorems of `stream` are stated over.
pub mod Stream
pub mod Heard
pub mod Rust
pub mod Noise
pub mod Cables
