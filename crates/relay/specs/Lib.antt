-- What the relay's author may lean on: Laws over the definitions that contracts cite, Operations over what the operations answer,
-- Fragments over a payload that is sent piece by piece. docs/RELAY.md says them in plain words.
pub mod Laws
pub mod Operations
pub mod Fragments
