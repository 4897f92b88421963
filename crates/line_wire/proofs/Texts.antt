-- No text of a value is longer than the bytes that the value was read from.
pub mod Content
pub mod Tokens
pub mod Parsed
pub mod Values
pub mod Asked
