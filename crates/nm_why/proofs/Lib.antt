mod CandidateLemmas
mod CureLemmas
mod HangLemmas
mod LeastLemmas
mod LimitLemmas
mod ListLemmas
mod PartLemmas
