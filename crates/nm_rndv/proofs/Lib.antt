pub mod GrantLemmas
mod KeptLemmas
mod PieceLemmas
mod Places
pub mod Results
mod SenderLemmas
pub mod StateLemmas
