pub mod Ends
pub mod Live
pub mod Standing
pub mod Worlds
