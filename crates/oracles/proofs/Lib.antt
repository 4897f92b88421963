pub mod Histories
pub mod UpperBounds
pub mod Sums
