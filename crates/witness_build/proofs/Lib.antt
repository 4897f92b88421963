pub mod HighestList
pub mod FormRows
pub mod FreeColumns
pub mod Solving
pub mod Dividing
pub mod CanonicalDirection
