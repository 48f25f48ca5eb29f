mod AnswerLemmas
mod DoingLemmas
mod EffectLemmas
mod HeldLemmas
mod LineLemmas
mod MessageLemmas
mod MidLemmas
mod NameLemmas
pub mod NextLemmas
mod PacketLemmas
mod PageLemmas
pub mod PlaceLemmas
pub mod PlayLemmas
mod SameLemmas
mod SparseLemmas
mod StartLemmas
mod StepLemmas
pub mod WorkLemmas
