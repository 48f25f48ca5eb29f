pub mod Candidates
pub mod Changes
pub mod Cures
pub mod Hangs
pub mod Least
pub mod Lists
pub mod Parts
