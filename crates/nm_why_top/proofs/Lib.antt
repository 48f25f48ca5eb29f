mod AnswerLemmas
mod AskedLemmas
mod FateLemmas
mod SeekLemmas
