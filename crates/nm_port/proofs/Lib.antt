mod SendLemmas
mod HeldLemmas
pub mod PollLemmas
-- lists by number
mod Listed
