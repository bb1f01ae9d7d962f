-- What the contracts of `shot_text` cite: what is trimmed, and what it is for a word to stand in a text.
pub mod Trim
pub mod Search
