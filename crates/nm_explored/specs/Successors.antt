-- What may happen next at a rank, by the states of all ranks.
use Rattle.std.specs.Prelude.{ℕ, ◌-◌, ◌==◌, ◌&&◌, ◌||◌, Bool, true, false, not, if◌then◌else◌}
use Rattle.std.specs.Prelude.{nat_lt, Option, Some, None, List}
use Rattle.std.specs.Prelude.{count_by, filter, find, is_some, length, option_and_then, option_map}
use Rattle.std.specs.List.{list_any, slice_get}
use Rattle.std.specs.Option.{option_map_or}
use Rattle.nm_types.specs.declared.messages.Arrival.{Arrival}
use Rattle.nm_types.specs.declared.scripts.Command.{Command}
use Rattle.nm_types.specs.declared.scripts.Command.TheVariants as command
use Rattle.nm_types.specs.declared.scripts.Line.{Line}
use Rattle.nm_types.specs.Bodies.{body_len}
use Rattle.nm_history.specs.declared.plain.Pair.{Pair}
use Rattle.nm_history.specs.Answers.{Message as Claimed}
use Rattle.nm_history.specs.Completion.{Request}
use Rattle.nm_history.specs.Completion.Request.{Receiving, Sending}
use Rattle.nm_history.specs.Matching.{is_of_message, is_of_receive}
use Rattle.nm_history.specs.RankRun.{how_of}
use Rattle.nm_match.specs.Deeds.{is_message}
use Rattle.nm_outcomes.specs.declared.spots.deeds.Deed.{Deed}
use Rattle.nm_outcomes.specs.declared.spots.deeds.Deed.TheVariants as deed
use Rattle.nm_outcomes.specs.declared.spots.deeds.Reply.{Reply}
use Rattle.nm_outcomes.specs.declared.spots.deeds.Reply.TheVariants as reply
use Rattle.nm_outcomes.specs.Looks.{claim_in, is_answer_by, is_receive_by, is_recall_by, is_send_by, is_unasked_by}
use Rattle.nm_outcomes.specs.Looks.{is_claim_any, is_cancelling_by, is_starting_by, live_in}
use Rattle.nm_outcomes.specs.Looks.{found_at, message_in}
use Rattle.nm_outcomes.specs.RankStates.{Spot, free_lem, is_cancel_by, is_that}

-- the state of a rank: its number in the table of states
abbrev pub spot_in : List Spot → List ℕ → ℕ → Option Spot
spot_in table ids i = option_and_then (λ id. slice_get table id) (slice_get ids i)

-- the rank's next command has done nothing yet
abbrev pub is_idle_at : Spot → Bool
is_idle_at spot = option_map_or is_answer_by (slice_get spot.deeds (length spot.deeds - 1)) true

-- the cancel of a receive, or the first recall of a send
abbrev pub cancel_at : Spot → Request → Option Deed
cancel_at spot (Receiving number) =
    Some (deed.Cancel number (not (list_any (is_of_receive number) spot.pairs)))
cancel_at spot (Sending to n) =
    if list_any (is_recall_by to n) spot.deeds then None else Some (deed.Recall to n)

-- the receive of a claimed message, which no receive took
abbrev pub match_at : Spot → ℕ → ℕ → Claimed → Option Deed
match_at spot cap line m =
    if list_any (is_of_message m.from m.n) spot.pairs then None
    else Some (deed.Match (count_by is_receive_by spot.deeds) m.from m.n cap line)

-- what the command of a line does before its answer
abbrev pub start_in : ℕ → List Line → ℕ → Spot → ℕ → Command → Option Deed
start_in eager lines i spot line (command.Send to q tag ctx sync body) =
    Some
    (deed.Send to (count_by (is_send_by to) spot.deeds) tag ctx (body_len body)
    (how_of eager sync (body_len body)) line)
start_in eager lines i spot line (command.Recv q from tag ctx cap) =
    Some
    (deed.Post
    (record {
      number = count_by is_receive_by spot.deeds;
      from = from;
      tag = tag;
      ctx = ctx;
      cap = cap;
    }) line)
start_in eager lines i spot line (command.Mrecv q m cap) =
    option_and_then (match_at spot cap line) (message_in lines i spot.deeds m)
start_in eager lines i spot line (command.Cancel q) =
    option_and_then (cancel_at spot) (live_in lines i spot.deeds q)
start_in eager lines i spot line (command.Mprobe m from tag ctx) =
    option_map (λ a. deed.Claim a.env.from a.n line) (found_at spot from tag ctx)
start_in eager lines i spot line _ = None

-- what a probe shows of a message
abbrev pub seen_at : Arrival → Reply
seen_at a = reply.Seen (record { from = a.env.from; tag = a.env.tag; len = a.env.len })

-- what a receive shows of its message, which a deed of its sender sent
abbrev pub got_by : Pair → Deed → Option Reply
got_by pair (deed.Send to n tag ctx len how line) =
    Some (reply.Got pair.arrival.env.from pair.arrival.env.tag line)
got_by pair _ = None

-- what a receive shows of its message, by the states of all ranks
abbrev pub shown_at : (ℕ → Option Spot) → ℕ → Pair → Option Reply
shown_at w i pair =
    if nat_lt pair.cap pair.arrival.env.len
    then Some (reply.Cut pair.arrival.env.from pair.arrival.env.tag pair.arrival.env.len)
    else option_and_then
    (λ sender. option_and_then (got_by pair) (slice_get (filter (is_send_by i) sender.deeds) pair.arrival.n))
    (w pair.arrival.env.from)

-- message n of rank i to a rank may have left, and a withdrawal would be late, or was not asked for
abbrev pub sent_at : Spot → Spot → ℕ → ℕ → ℕ → Option Reply
sent_at spot other i to n =
    if list_any (is_that i n) other.withdrawn then Some reply.Cancelled
    else if (list_any (is_unasked_by to n) spot.deeds || list_any (is_of_message i n) other.pairs)
    && (not (list_any (is_recall_by to n) spot.deeds)
    || (list_any (is_message i n) other.came && not (free_lem other i n)))
    then Some reply.Sent
    else None

-- what a request of rank i may end with by now
abbrev pub result_in : (ℕ → Option Spot) → ℕ → Spot → Request → Option Reply
result_in w i spot (Receiving number) =
    if list_any (is_cancel_by number) spot.deeds then Some reply.Cancelled
    else option_and_then (shown_at w i) (find (is_of_receive number) spot.pairs)
result_in w i spot (Sending to n) = option_and_then (λ other. sent_at spot other i to n) (w to)

-- the answer to a start whose name has this request
abbrev pub started_at : Bool → Option Request → Option Reply
started_at idle (Some request) = if idle then Some reply.Busy else None
started_at idle None = if idle then None else Some reply.Started

-- the answer to a cancel of a send: it was recalled, before or now
abbrev pub recalled_at : Spot → ℕ → ℕ → Option Reply
recalled_at spot to n = if list_any (is_recall_by to n) spot.deeds then Some reply.Asked else None

-- the answer to a cancel of this request
abbrev pub cancelled_at : Bool → Spot → Option Request → Option Reply
cancelled_at idle spot None = if idle then Some reply.Null else None
cancelled_at idle spot (Some (Receiving number)) =
    if idle then None
    else Some (if list_any (is_of_receive number) spot.pairs then reply.Late else reply.Done)
cancelled_at idle spot (Some (Sending to n)) = recalled_at spot to n

-- the answer to a matched probe of a line, whose handle has this message
abbrev pub probed_at : Bool → Spot → ℕ → Option Arrival → Option Claimed → Option Reply
probed_at idle spot line free (Some held) = if idle then Some reply.Busy else None
probed_at idle spot line free None =
    if idle then (if is_some free then None else Some reply.Nothing)
    else option_map seen_at
    (option_and_then (λ m. find (is_message m.from m.n) spot.came) (claim_in spot.deeds line))

-- the answer to a matched receive
abbrev pub received_at : Bool → Option Request → Option Claimed → Option Reply
received_at idle (Some request) message = if idle then Some reply.Busy else None
received_at idle None (Some message) = if idle then None else Some reply.Started
received_at idle None None = if idle then Some reply.Null else None

-- the answer that the command of a line can have by now, but for that of a test that its request is
-- not complete
abbrev pub answer_in : (ℕ → Option Spot) → List Line → ℕ → Spot → ℕ → Command → Option Reply
answer_in w lines i spot line (command.Send to q tag ctx sync body) =
    started_at (is_idle_at spot) (live_in lines i spot.deeds q)
answer_in w lines i spot line (command.Recv q from tag ctx cap) =
    started_at (is_idle_at spot) (live_in lines i spot.deeds q)
answer_in w lines i spot line (command.Wait q) =
    option_map_or (result_in w i spot) (live_in lines i spot.deeds q) (Some reply.Null)
answer_in w lines i spot line (command.Test q) =
    option_map_or (result_in w i spot) (live_in lines i spot.deeds q) (Some reply.Null)
answer_in w lines i spot line (command.Probe from tag ctx) =
    Some (option_map_or seen_at (found_at spot from tag ctx) reply.Nothing)
answer_in w lines i spot line (command.Await from tag ctx) =
    option_map seen_at (found_at spot from tag ctx)
answer_in w lines i spot line (command.Cancel q) =
    cancelled_at (is_idle_at spot) spot (live_in lines i spot.deeds q)
answer_in w lines i spot line (command.Mprobe m from tag ctx) =
    probed_at (is_idle_at spot) spot line (found_at spot from tag ctx)
    (message_in lines i spot.deeds m)
answer_in w lines i spot line (command.Mrecv q m cap) =
    received_at (is_idle_at spot) (live_in lines i spot.deeds q) (message_in lines i spot.deeds m)

-- a request may not be complete yet: a receive that was cancelled is
abbrev pub may_be_open : Spot → Request → Bool
may_be_open spot (Receiving number) = not (list_any (is_cancel_by number) spot.deeds)
may_be_open spot (Sending to n) = true

-- the command is a test of a live request, which may say that it is not complete
abbrev pub is_test_of : List Line → ℕ → Spot → Command → Bool
is_test_of lines i spot (command.Test q) =
    option_map_or (may_be_open spot) (live_in lines i spot.deeds q) false
is_test_of lines i spot _ = false

-- the message that a deed of a rank sent, which is the n-th to another one
abbrev pub arrival_by : ℕ → ℕ → Deed → Option Arrival
arrival_by from n (deed.Send to m tag ctx len how line) =
    Some (record { n = n; env = record { from = from; tag = tag; ctx = ctx; len = len; how = how } })
arrival_by from n _ = None

-- the next message under way from a rank
abbrev pub message_next : (ℕ → Option Spot) → ℕ → ℕ → Option Arrival
message_next w i from =
    option_and_then
    (λ spot. option_and_then
    (λ other. let n = count_by (λ a. a.env.from == from) spot.came in
    option_and_then (arrival_by from n) (slice_get (filter (is_send_by i) other.deeds) n)) (w from)) (w i)

-- a deed can't come right behind one of its own kind: a start, a cancel, or a claim
abbrev pub is_held_by : Deed → Deed → Bool
is_held_by last (deed.Send to n tag ctx len how line) = is_starting_by last
is_held_by last (deed.Post r line) = is_starting_by last
is_held_by last (deed.Cancel number done) = is_cancelling_by last
is_held_by last (deed.Claim from n line) = is_claim_any last
is_held_by last _ = false

-- a deed may come behind these ones
abbrev pub may_begin : List Deed → Deed → Bool
may_begin deeds d = option_map_or (λ last. not (is_held_by last d)) (slice_get deeds (length deeds - 1)) true

-- what the command of a line does now, before its answer
abbrev pub begun_in : ℕ → List Line → ℕ → Spot → ℕ → Command → Option Deed
begun_in eager lines i spot line c =
    option_and_then (λ d. if may_begin spot.deeds d then Some d else None) (start_in eager lines i spot line c)

-- message n of a rank may be withdrawn: it came, is free, and was recalled
abbrev pub is_withdrawn_next : (ℕ → Option Spot) → ℕ → ℕ → ℕ → Bool
is_withdrawn_next w i from n =
    option_map_or
    (λ spot. option_map_or
    (λ other. list_any (is_message from n) spot.came &&
    (free_lem spot from n && list_any (is_recall_by i n) other.deeds))
    (w from) false) (w i) false
