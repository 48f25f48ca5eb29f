pub mod Ends
pub mod Finding
pub mod Marks
pub mod Places
pub mod Records
pub mod Tellings
pub mod Texts
pub mod Tracing
