mod NearLemmas
mod StateLemmas
mod WaitLemmas
