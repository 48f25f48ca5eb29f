mod BetweenLemmas
mod BodyLemmas
mod CameLemmas
mod CountingLemmas
pub mod ExactLemmas
mod FirstLemmas
pub mod ItemLemmas
mod LocalLemmas
mod MarkLemmas
mod MiscountLemmas
mod OverLemmas
mod PairLemmas
pub mod RankLemmas
mod RankedLemmas
mod ReadLemmas
mod RestFirstLemmas
mod SentLemmas
pub mod TableLemmas
pub mod WaitLemmas
pub mod WasLemmas
