pub mod Buffers
pub mod NextBytes
pub mod Writes
pub mod TouchedPlaces
pub mod KeptCalls
pub mod TiedToItsCalls
pub mod WhatCallsLeave
