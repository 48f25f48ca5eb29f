mod AnswerLemmas
mod CallLemmas
mod LawfulLemmas
mod LineLemmas
pub mod MappedLemmas
mod NumberLemmas
mod OrderLemmas
mod OwnLemmas
mod PairLemmas
mod PlaceLemmas
mod RankLemmas
mod RunLemmas
mod SameLemmas
