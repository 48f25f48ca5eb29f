pub mod EntryLemmas
pub mod WindowLemmas
