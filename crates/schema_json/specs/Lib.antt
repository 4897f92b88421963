pub mod Columns
pub mod SecretShape
pub mod Faults
pub mod Kept
pub mod Reading
pub mod ValueLaws
pub mod Decimals
pub mod CountFacts
