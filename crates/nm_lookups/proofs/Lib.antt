mod CommandLemmas
pub mod EachLemmas
mod EarlyLemmas
mod EventLemmas
pub mod FirstLemmas
pub mod GivenLemmas
pub mod HistoryLemmas
mod IdleLemmas
mod LookLemmas
mod MatcherLemmas
mod NameLemmas
mod PairingLemmas
pub mod ReplayLemmas
pub mod RequestLemmas
mod SinceLemmas
pub mod StepLemmas
mod UpToLemmas
mod WalkLemmas
