pub mod Answers
pub mod Endings
pub mod Items
pub mod Readings
pub mod Texts
pub mod Words
