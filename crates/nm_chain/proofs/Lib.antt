mod BoxApartLemmas
mod BoxEmptyLemmas
mod BoxFillLemmas
pub mod BoxLemmas
pub mod BoxStepLemmas
pub mod ChainLemmas
pub mod ConsumerLemmas
pub mod CountLemmas
pub mod CountingLemmas
mod DequeueLemmas
mod HeadLemmas
pub mod ListLemmas
pub mod OpeningLemmas
pub mod PairLemmas
pub mod ProducerLemmas
pub mod QueueLemmas
mod SeatLemmas
pub mod SequenceLemmas
pub mod SpokenLemmas
pub mod TotalLemmas
pub mod UpdateLemmas
pub mod WindowLemmas
