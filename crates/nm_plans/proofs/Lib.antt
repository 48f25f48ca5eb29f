mod CountLemmas
pub mod GrammarLemmas
pub mod MakeLemmas
pub mod PartLemmas
pub mod RequestLemmas
pub mod ValueLemmas
