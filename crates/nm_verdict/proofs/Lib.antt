mod EndLemmas
mod QuoteLemmas
