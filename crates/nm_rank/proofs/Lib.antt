mod AcceptLemmas
mod AcceptedLemmas
mod AwaitLemmas
mod CancelLemmas
mod ClearLemmas
mod DrawLemmas
mod FinishLemmas
mod Goes
mod JournalLemmas
mod LastLemmas
mod LeaveLemmas
mod NewLemmas
mod PieceLemmas
mod PutLemmas
pub mod ReceiveLemmas
mod RequestLemmas
pub mod ResultLemmas
mod RoomLemmas
mod SendLemmas
mod TakeLemmas
mod TakenLemmas
mod ViewLemmas
