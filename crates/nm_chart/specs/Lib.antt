pub mod Answers
pub mod Endings
pub mod Findings
pub mod Given
pub mod Parts
pub mod Widened
pub mod PartWords
