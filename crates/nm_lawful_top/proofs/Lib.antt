mod EndLemmas
mod InputLemmas
mod ReadingLemmas
