pub mod Done
pub mod Inputs
