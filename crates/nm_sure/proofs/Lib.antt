mod Wayside
mod Partnered
mod Standing
mod Readiness
mod Running
mod Stepping
mod Telling
mod Before
mod Plainness
mod Texts
pub mod Shown
pub mod ShownAnswers
pub mod Assembled
mod Fuel
pub mod Floor
pub mod Ceiling
mod Early
pub mod Called
pub mod Worlds
mod Reached
pub mod Flown
pub mod Made
pub mod Rising
pub mod Coupled
pub mod Fitting
mod Numbering
pub mod Lists
mod Carried
pub mod Progress
pub mod Gathered
pub mod Fronts
pub mod Named
pub mod PlacedLemmas
