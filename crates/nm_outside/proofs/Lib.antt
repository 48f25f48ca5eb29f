pub mod ReadingLemmas
mod WritingLemmas
