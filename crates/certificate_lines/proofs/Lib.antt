pub mod TermsSoFar
pub mod Turns
pub mod OneText
