mod BestLemmas
mod EarlyLemmas
mod BucketLemmas
pub mod DeedLemmas
mod HeldLemmas
pub mod ListLemmas
pub mod NameLemmas
pub mod NumberLemmas
mod OldestLemmas
mod OrderLemmas
mod PlaceLemmas
pub mod PushLemmas
pub mod QueueLemmas
pub mod StandsLemmas
mod StepLemmas
pub mod TurnLemmas
mod EventLemmas
mod PostedLemmas
mod RingLemmas
mod RingQueueLemmas
mod RowLemmas
mod SearchLemmas
mod SeenLemmas
mod WildLemmas
mod WildcardLemmas
mod AgeLemmas
pub mod InTurnLemmas
