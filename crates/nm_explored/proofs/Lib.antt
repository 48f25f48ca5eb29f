mod AfterLemmas
pub mod AnswerLemmas
pub mod ApartLemmas
mod BackLemmas
mod BehindLemmas
pub mod CalmLemmas
pub mod ChoiceLemmas
mod ChosenLemmas
mod ComeLemmas
pub mod ExpandLemmas
pub mod KeptLemmas
pub mod LineLemmas
pub mod MetLemmas
pub mod OrderlyLemmas
pub mod PackLemmas
pub mod PlacedLemmas
pub mod PostLemmas
pub mod RestedLemmas
pub mod RestLemmas
pub mod ResultLemmas
mod SeenLemmas
pub mod SenderLemmas
pub mod SendLemmas
pub mod SetLemmas
pub mod SinceLemmas
pub mod StartedLemmas
pub mod StoreLemmas
pub mod TellLemmas
pub mod ToldLemmas
pub mod WalkLemmas
mod WayLemmas
