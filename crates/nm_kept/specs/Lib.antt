pub mod Entering
pub mod Keeping
