pub mod Twins
pub mod Copying
pub mod Restoring
pub mod Fronts
pub mod Laws
