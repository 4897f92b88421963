pub mod Drawings
pub mod Draws
pub mod Drills
pub mod Lines
pub mod Tables
pub mod Tallies
