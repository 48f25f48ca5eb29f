mod ArgumentLemmas
pub mod BodyLemmas
pub mod CommandLemmas
pub mod CommandTakenLemmas
pub mod DigitLemmas
pub mod FaultLemmas
pub mod FirstLineLemmas
mod FloodLineLemmas
mod FoundLemmas
mod KeywordLemmas
pub mod LengthLemmas
mod LimitLemmas
pub mod LineAtLemmas
pub mod LineLemmas
pub mod NumberLemmas
mod OptionLemmas
mod PushLemmas
mod RangeLemmas
pub mod ReadLemmas
mod RuleLemmas
pub mod StepLemmas
pub mod TextLemmas
mod WayLemmas
pub mod WordLemmas
pub mod WordsStepLemmas
