pub mod Excerpts
pub mod LastCalls
pub mod Orders
pub mod Renumbered
pub mod Transcripts
