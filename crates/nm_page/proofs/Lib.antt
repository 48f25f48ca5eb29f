mod WithinLemmas
mod PageLemmas
