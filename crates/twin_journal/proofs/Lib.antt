pub mod CatchingUp
pub mod TwinCauses
pub mod TwinMoments
pub mod Copies
pub mod StillTogether
