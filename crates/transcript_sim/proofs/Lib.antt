pub mod Averages
pub mod OneVerdict
pub mod Exchanges
pub mod Beginnings
pub mod Begun
pub mod Turns
