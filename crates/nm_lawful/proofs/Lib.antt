mod ByteLemmas
mod EndLemmas
mod LineLemmas
mod SearchLemmas
mod SetLemmas
