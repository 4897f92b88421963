pub mod Verdicts
pub mod Beginning
pub mod Steps
pub mod Ends
pub mod Laws
