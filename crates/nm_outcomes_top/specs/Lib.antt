pub mod Answers
pub mod Endings
pub mod OptionWords
pub mod Texts
