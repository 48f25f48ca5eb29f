-- What the answers of a history add up to.
use Rattle.std.specs.Prelude.{◌≡◌, ℕ, ◌^◌, ◌<◌, Bool, true, false, List, [], ◌∷◌, count_by, flat_map, length, sum_by}
use Rattle.nm_types.specs.declared.answers.Answer.{Answer}
use Rattle.nm_types.specs.declared.answers.Answer.TheVariants.{Sent, Got}
use Rattle.nm_history.specs.declared.events.Event.{Event}
use Rattle.nm_history.specs.declared.events.Happened.{Happened}
use Rattle.nm_history.specs.declared.events.Happened.TheVariants.{Ran}
use Rattle.nm_history.specs.declared.totals.Totals.{Totals}

-- a send is complete
abbrev pub is_sent : Answer → Bool
is_sent Sent = true
is_sent _ = false

-- a receive is complete, with the message's bytes
abbrev pub is_got : Answer → Bool
is_got (Got from tag body) = true
is_got _ = false

-- how many bytes it has
abbrev pub got_len : Answer → ℕ
got_len (Got from tag body) = length body
got_len _ = 0

-- the answer of an event, if it is one
abbrev pub answer_in : Happened → List Answer
answer_in (Ran line answer) = answer ∷ []
answer_in _ = []

-- the answers of a history, in order
abbrev pub answers_given : List Event → List Answer
answers_given h = flat_map (λ event. answer_in event.what) h

-- what these answers add up to: each number is exact where it is below 2^64
pub record AreTotals (answers : List Answer) (totals : Totals) : Type 0 where
  pub sent : count_by is_sent answers < 2 ^ 64 → totals.sent ≡ count_by is_sent answers
  pub got : count_by is_got answers < 2 ^ 64 → totals.got ≡ count_by is_got answers
  pub bytes : sum_by got_len answers < 2 ^ 64 → totals.bytes ≡ sum_by got_len answers
