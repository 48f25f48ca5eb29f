mod AtWorkLemmas
mod BeginLemmas
pub mod BoxCallLemmas
mod BoxCountedLemmas
mod BoxPortLemmas
mod CarriedLemmas
mod ClosingLemmas
pub mod CountedLemmas
mod HoldingLemmas
mod LooseLemmas
pub mod NumberLemmas
mod PassLemmas
mod PathListLemmas
pub mod PortLemmas
mod StayLemmas
mod TallyLemmas
