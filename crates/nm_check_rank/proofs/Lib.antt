mod AgainstLemmas
mod AnswerLemmas
mod ArrivalLemmas
pub mod BreakLemmas
mod CancelLemmas
mod CancellingLemmas
mod ClaimLemmas
mod ClaimingLemmas
pub mod CountLemmas
mod DecideLemmas
pub mod DifferLemmas
mod DueLemmas
pub mod FirstBrokenLemmas
mod FrontLemmas
mod GivenLemmas
mod ManyLemmas
mod MismatchLemmas
mod ObjectionLemmas
mod OrderLemmas
pub mod OwnLemmas
mod PushLemmas
mod ResultLemmas
pub mod RuleLemmas
mod SoFarLemmas
mod StartLemmas
mod StartingLemmas
mod TakenLemmas
mod ToldLemmas
