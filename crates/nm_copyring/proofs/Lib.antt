mod ClosingLemmas
mod KeptLemmas
mod ListLemmas
mod OpeningLemmas
mod PortLemmas
pub mod RingLemmas
mod StepLemmas
