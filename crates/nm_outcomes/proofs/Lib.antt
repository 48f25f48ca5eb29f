pub mod Bodies
pub mod CallLemmas
pub mod DueLemmas
mod Early
pub mod EndLemmas
pub mod FoundLemmas
pub mod HappenedLemmas
pub mod ListLemmas
pub mod LogLemmas
pub mod LookLemmas
pub mod MoveLemmas
pub mod PartLemmas
pub mod PathLemmas
pub mod PlaceLemmas
mod QuietLemmas
pub mod RestLemmas
pub mod SaidLemmas
pub mod SearchLemmas
pub mod SentLemmas
pub mod SpotLemmas
pub mod StepLemmas
pub mod SwapLemmas
