pub mod AnswerLemmas
pub mod ArrivedLemmas
pub mod BeginLemmas
pub mod ComeLemmas
pub mod CountLemmas
pub mod EndedLemmas
pub mod EntryLemmas
pub mod FinishLemmas
pub mod HushLemmas
pub mod LineLemmas
mod OrderLemmas
pub mod PacketLemmas
mod PlaceLemmas
pub mod QuietLemmas
mod RangeLemmas
pub mod ReachLemmas
pub mod RecordLemmas
pub mod ResultLemmas
pub mod RunLemmas
pub mod SteadyLemmas
pub mod TellLemmas
pub mod ToldLemmas
mod TraceLemmas
pub mod TurnLemmas
pub mod WayLemmas
