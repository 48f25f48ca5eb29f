pub mod Answers
pub mod Checks
pub mod Done
pub mod Endings
pub mod Plains
pub mod Plans
pub mod Scripts
