mod CutLemmas
pub mod FailLemmas
pub mod PartLemmas
mod ScriptLemmas
