pub mod Flags
pub mod Markup
pub mod Pictures
pub mod Sheet
pub mod WellFormed
