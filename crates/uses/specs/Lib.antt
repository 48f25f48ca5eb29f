pub mod Crossings
pub mod Faults
pub mod Fronts
pub mod QueueCrossings
pub mod Standing
pub mod Steps
pub mod Story
