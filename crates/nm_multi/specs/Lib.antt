pub mod Calls
pub mod Moves
pub mod Standing
pub mod Acts
pub mod Programs
pub mod Text
