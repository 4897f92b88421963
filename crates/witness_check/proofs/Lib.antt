pub mod GreatestSoFar
pub mod SumsSoFar
pub mod MovedRows
