pub mod Reports
pub mod Variants
