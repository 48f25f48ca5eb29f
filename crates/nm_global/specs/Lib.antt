pub mod Calls
pub mod Emitted
pub mod Logged
pub mod Moments
pub mod ProcessInvariant
pub mod Ranks
pub mod Steps
