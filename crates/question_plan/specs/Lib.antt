pub mod Session
pub mod Replies
pub mod Plans
pub mod Planned
pub mod Laws
pub mod InTurn
pub mod Dues
