pub mod Chains
pub mod Near
pub mod States
pub mod Waits
