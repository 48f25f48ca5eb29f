mod CountLemmas
mod EscapeLemmas
mod SheetLemmas
pub mod AlikeLemmas
pub mod WellFormedLemmas
