pub mod Calls
pub mod Counts
pub mod HasRun
pub mod Turns
