pub mod CutLemmas
mod JoinLemmas
pub mod MessageLemmas
pub mod MissingLemmas
mod PlaceLemmas
mod SenderLemmas
mod StreamLemmas
