-- What a state says of its history: names, handles, counts and marks, by what the rank did.
use Rattle.std.specs.Prelude.{◌≡◌, ℕ, ◌==◌, ◌&&◌, Bool, true, false, not, Option, None, List, [], map, fold, find}
use Rattle.std.specs.Prelude.{count_by, length, option_and_then}
use Rattle.std.specs.List.{list_any}
use Rattle.nm_types.specs.declared.messages.Arrival.{Arrival}
use Rattle.nm_types.specs.declared.messages.Peer.{Peer}
use Rattle.nm_types.specs.declared.messages.TagPick.{TagPick}
use Rattle.nm_types.specs.declared.scripts.Line.{Line}
use Rattle.nm_types.specs.Commands.{commands_of}
use Rattle.nm_history.specs.declared.events.Event.{Event}
use Rattle.nm_history.specs.Answers.{Message as Claimed, claim_at, claim_line_after, line_after, live, live_message}
use Rattle.nm_history.specs.Answers.{message_claimed, request_of}
use Rattle.nm_history.specs.Happens.{happened, is_recall}
use Rattle.nm_history.specs.RankRun.{ran_lines}
use Rattle.nm_history.specs.Completion.{Request}
use Rattle.nm_history.specs.Selection.{matches}
use Rattle.nm_history.specs.Sends.{is_ask, receives, sends}
use Rattle.nm_outcomes.specs.Results.{is_unasked}
use Rattle.nm_outcomes.specs.declared.spots.deeds.Deed.{Deed}
use Rattle.nm_outcomes.specs.declared.spots.deeds.Deed.TheVariants as deed
use Rattle.nm_outcomes.specs.Deeds.{happening}
use Rattle.nm_outcomes.specs.RankStates.{IsSpotOf, Spot}

-- the history of these deeds alone; stamps play no part
abbrev pub events_of : List Line → List Deed → List Event
events_of lines deeds = map (λ d. record { stamp = 0; what = happening lines d }) deeds

-- the line that a name stands for, and that a handle stands for
abbrev pub name_in : List Line → ℕ → List Deed → ℕ → Option ℕ
name_in lines rank deeds q =
    fold (λ line d. line_after (commands_of rank lines) q line (happening lines d)) None deeds

-- the line that a handle stands for
abbrev pub handle_in : List Line → ℕ → List Deed → ℕ → Option ℕ
handle_in lines rank deeds m =
    fold (λ line d. claim_line_after (commands_of rank lines) m line (happening lines d)) None deeds

-- a deed starts the request of a line, and claims the message of one
abbrev pub is_start_by : ℕ → Deed → Bool
is_start_by line (deed.Send to n tag ctx len how own) = own == line
is_start_by line (deed.Post r own) = own == line
is_start_by line (deed.Match number from n cap own) = own == line
is_start_by line _ = false

-- a deed claims the message of a line
abbrev pub is_claim_at : ℕ → Deed → Bool
is_claim_at line (deed.Claim from n own) = own == line
is_claim_at line _ = false

-- the request of a line, and the message that it claimed; what a script sends plays no part
abbrev pub request_in : List Deed → ℕ → Option Request
request_in deeds line = option_and_then (λ d. request_of line (happening [] d)) (find (is_start_by line) deeds)

-- the message that a line claimed
abbrev pub claim_in : List Deed → ℕ → Option Claimed
claim_in deeds line = option_and_then (λ d. message_claimed line (happening [] d)) (find (is_claim_at line) deeds)

-- the live request of a name, and the live message of a handle
abbrev pub live_in : List Line → ℕ → List Deed → ℕ → Option Request
live_in lines rank deeds q = option_and_then (request_in deeds) (name_in lines rank deeds q)

-- the live message of a handle
abbrev pub message_in : List Line → ℕ → List Deed → ℕ → Option Claimed
message_in lines rank deeds m = option_and_then (claim_in deeds) (handle_in lines rank deeds m)

-- the oldest free message that is selected
unfoldable pub found_at : Spot → Peer → TagPick → ℕ → Option Arrival
found_at spot from tag ctx = find (λ a. matches from tag ctx a.env) spot.free

-- a deed is an answer, starts a receive, sends to a rank
abbrev pub is_answer_by : Deed → Bool
is_answer_by (deed.Ran line reply) = true
is_answer_by _ = false

-- a deed starts a receive
abbrev pub is_receive_by : Deed → Bool
is_receive_by (deed.Post r line) = true
is_receive_by (deed.Match number from n cap line) = true
is_receive_by _ = false

-- a deed sends to a rank
abbrev pub is_send_by : ℕ → Deed → Bool
is_send_by to (deed.Send to' n tag ctx len how line) = to' == to
is_send_by to _ = false

-- a deed is a send or a receive, a cancel or a recall, a claim
abbrev pub is_starting_by : Deed → Bool
is_starting_by (deed.Send to n tag ctx len how line) = true
is_starting_by (deed.Post r line) = true
is_starting_by (deed.Match number from n cap line) = true
is_starting_by _ = false

-- a deed is a cancel or a recall
abbrev pub is_cancelling_by : Deed → Bool
is_cancelling_by (deed.Cancel number done) = true
is_cancelling_by (deed.Recall to n) = true
is_cancelling_by _ = false

-- a deed is a claim
abbrev pub is_claim_any : Deed → Bool
is_claim_any (deed.Claim from n line) = true
is_claim_any _ = false

-- a deed sends message n to a rank without asking, and recalls it
abbrev pub is_unasked_by : ℕ → ℕ → Deed → Bool
is_unasked_by to n (deed.Send to' n' tag ctx len how line) = to' == to && (n' == n && not (is_ask how))
is_unasked_by to n _ = false

-- a deed recalls message n to a rank
abbrev pub is_recall_by : ℕ → ℕ → Deed → Bool
is_recall_by to n (deed.Recall to' n') = to' == to && n' == n
is_recall_by to n _ = false

-- What a state says is what the definitions say of its history: the live requests and messages, how
-- many commands ran, receives were started and messages sent, and what was sent without asking or
-- recalled.
pub record IsSaid (lines : List Line) (h : List Event) (spot : Spot) : Type 0 where
  pub live : (rank q : ℕ) → live_in lines rank spot.deeds q ≡ live (commands_of rank lines) h q
  pub message :
      (rank m : ℕ) → message_in lines rank spot.deeds m ≡ live_message (commands_of rank lines) h m
  pub claim : (line : ℕ) → claim_in spot.deeds line ≡ claim_at h line
  pub ran : count_by is_answer_by spot.deeds ≡ length (ran_lines h)
  pub received : count_by is_receive_by spot.deeds ≡ length (receives h)
  pub sent : (to : ℕ) → count_by (is_send_by to) spot.deeds ≡ length (sends h to)
  pub unasked : (to n : ℕ) → list_any (is_unasked_by to n) spot.deeds ≡ is_unasked (sends h to) n
  pub recalled : (to n : ℕ) → list_any (is_recall_by to n) spot.deeds ≡ happened (is_recall to n) h

-- so each state says of its history
abbrev pub StatesSay : Type 0
StatesSay = (lines : List Line) (h : List Event) (spot : Spot) → IsSpotOf lines h spot → IsSaid lines h spot
