pub mod Texts
pub mod Waiting
