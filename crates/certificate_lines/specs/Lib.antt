pub mod Texts
pub mod Explained
pub mod Laws
pub mod Provers
