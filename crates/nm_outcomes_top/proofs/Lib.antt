mod EndLemmas
mod InputLemmas
mod ListingLemmas
mod SafeLemmas
mod TellingLemmas
mod WordLemmas
