pub mod MovedRows
pub mod Sending
pub mod LinesOn
pub mod SecretNames
pub mod Subjects
pub mod FreeColumns
pub mod RowLines
