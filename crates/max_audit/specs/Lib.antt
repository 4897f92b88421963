pub mod Witnesses
pub mod HighestLaws
pub mod Laws
pub mod Candidates
pub mod Knowing
pub mod Columns
