-- What a command may answer, and what it does with that answer. MPI 3.1, 3.4 (a synchronous send is complete
-- only with its receive, a standard one may be before), 3.7.3 (wait and test), 3.8.1 to 3.8.3 (probes), 3.8.4 (cancel).
use Rattle.std.specs.Prelude.{ℕ, ◌==◌, ◌&&◌, ◌||◌, Bool, true, false, not, is_some, nat_eq, nat_le, nat_lt}
use Rattle.std.specs.Prelude.{if◌then◌else◌, Option, Some, None, List, option_and_then, option_map}
use Rattle.std.specs.Cmp.Lexicographic.{pointwise}
use Rattle.std.specs.List.{list_any, slice_get}
use Rattle.std.specs.Option.{option_map_or}
use Rattle.nm_types.specs.declared.answers.Answer.{Answer}
use Rattle.nm_types.specs.declared.answers.Answer.TheVariants as answer
use Rattle.nm_types.specs.declared.messages.Peer as peer
use Rattle.nm_types.specs.declared.messages.Seen.{Seen}
use Rattle.nm_types.specs.declared.messages.TagPick as pick
use Rattle.nm_types.specs.declared.scripts.Body.{Body}
use Rattle.nm_types.specs.declared.scripts.Command.{Command}
use Rattle.nm_types.specs.declared.scripts.Command.TheVariants as command
use Rattle.nm_types.specs.declared.scripts.Line.{Line}
use Rattle.nm_types.specs.Bodies.{body_len, bytes_of}
use Rattle.nm_history.specs.Totals.{is_sent}
use Rattle.nm_lawful.specs.declared.messages.Act.{Act}
use Rattle.nm_lawful.specs.declared.messages.Act.TheVariants as act
use Rattle.nm_lawful.specs.declared.messages.Message.{Message}
use Rattle.nm_lawful.specs.declared.messages.Pattern.{Pattern}
use Rattle.nm_lawful.specs.declared.messages.Request.{Request}
use Rattle.nm_lawful.specs.declared.messages.Standing.{Standing}
use Rattle.nm_lawful.specs.declared.messages.Standing.TheVariants as standing
use Rattle.nm_lawful.specs.Ranks.{RankState, handle_lem, is_waiting_lem, live_lem, shown_to_lem}

-- these are the bytes that a command sends
abbrev pub sends_bytes_lem : Command → List ℕ → Bool
sends_bytes_lem (command.Send to q tag ctx sync body) bytes = pointwise nat_eq (bytes_of body) bytes
sends_bytes_lem _ bytes = false

-- .. that the line at a place sends
abbrev pub has_bytes_lem : List Line → ℕ → List ℕ → Bool
has_bytes_lem lines place bytes = option_map_or (λ l. sends_bytes_lem l.command bytes) (slice_get lines place) false

-- A receive that has this message ends so (3.2.4). Behind a message that was cut the length is open by the letter (8.3):
-- the length 0, which no such message has, stands for any.
abbrev pub is_result_lem : List Line → ℕ → Message → Answer → Bool
is_result_lem lines cap m (answer.Got from tag bytes) =
    nat_le m.len cap && (m.from == from && (m.tag == tag && has_bytes_lem lines m.place bytes))
is_result_lem lines cap m (answer.Cut from tag len) =
    nat_lt cap m.len && (m.from == from && (m.tag == tag && (len == 0 || len == m.len)))
is_result_lem lines cap m _ = false

-- an answer says that a request was cancelled
abbrev pub is_cancelled_lem : Answer → Bool
is_cancelled_lem answer.Cancelled = true
is_cancelled_lem _ = false

-- a request that stands so may end with this answer, where a receive has still to take its message or not
abbrev pub ends_lem : List Line → Bool → Standing → Answer → Bool
ends_lem lines waiting (standing.Send sync) a = is_sent a && (not sync || not waiting)
ends_lem lines waiting (standing.Recalled sync) a = is_sent a && (not sync || not waiting)
ends_lem lines waiting standing.Withdrawn a = is_cancelled_lem a
ends_lem lines waiting (standing.Open pattern cap) a = false
ends_lem lines waiting (standing.Marked pattern cap) a = false
ends_lem lines waiting standing.Off a = is_cancelled_lem a
ends_lem lines waiting (standing.Taken cap m) a = is_result_lem lines cap m a

-- the rank's request may end with this answer
abbrev pub may_end_lem : List Line → RankState → Request → Answer → Bool
may_end_lem lines rank r a = ends_lem lines (is_waiting_lem rank r.place) r.standing a

-- a start: its name has no live request, or it is refused
abbrev pub started_lem : Bool → Act → Option Answer → Option Act
started_lem free a None = if free then Some a else None
started_lem free a (Some answer.Busy) = if free then None else Some act.Pass
started_lem free a (Some _) = None

-- an answer of a name that has nothing
abbrev pub nulled_lem : Answer → Option Act
nulled_lem answer.Null = Some act.Pass
nulled_lem _ = None

-- a wait
abbrev pub waited_lem : List Line → RankState → ℕ → Answer → Option Act
waited_lem lines rank q a =
    option_map_or (λ r. if may_end_lem lines rank r a then Some (act.End q) else None) (live_lem rank q) (nulled_lem a)

-- a test may say `no` of each request
abbrev pub tested_lem : List Line → RankState → ℕ → Answer → Option Act
tested_lem lines rank q answer.No = if is_some (live_lem rank q) then Some act.Pass else None
tested_lem lines rank q a = waited_lem lines rank q a

-- the message that an answer shows
abbrev pub seen_by_lem : List RankState → ℕ → RankState → Pattern → Seen → Option Message
seen_by_lem state to rank p seen =
    option_and_then (λ m. if m.tag == seen.tag && m.len == seen.len then Some m else None)
    (option_and_then (λ sender. shown_to_lem sender to rank p) (slice_get state seen.from))

-- a look that shows a message, and what is done with it
abbrev pub looked_lem : (Message → Act) → List RankState → ℕ → RankState → Pattern → Answer → Option Act
looked_lem does state to rank p (answer.Seen seen) = option_map does (seen_by_lem state to rank p seen)
looked_lem does state to rank p _ = None

-- a probe may say `none` though a message was sent
abbrev pub probed_lem : (Message → Act) → List RankState → ℕ → RankState → Pattern → Answer → Option Act
probed_lem does state to rank p answer.Nothing = Some act.Pass
probed_lem does state to rank p a = looked_lem does state to rank p a

-- a matched probe: its handle has no live message, or it is refused
abbrev pub claimed_lem : List RankState → ℕ → RankState → ℕ → Pattern → Answer → Option Act
claimed_lem state to rank m p answer.Busy = if is_some (handle_lem rank m) then Some act.Pass else None
claimed_lem state to rank m p a =
    if is_some (handle_lem rank m) then None else probed_lem (λ message. act.Claim m message) state to rank p a

-- a matched receive
abbrev pub received_lem : RankState → ℕ → ℕ → ℕ → Option Answer → Option Act
received_lem rank q m cap None =
    if is_some (live_lem rank q) then None
    else option_map (λ c. act.Receive q m cap c.message) (handle_lem rank m)
received_lem rank q m cap (Some answer.Busy) = if is_some (live_lem rank q) then Some act.Pass else None
received_lem rank q m cap (Some answer.Null) =
    if is_some (live_lem rank q) || is_some (handle_lem rank m) then None else Some act.Pass
received_lem rank q m cap (Some _) = None

-- a cancel that takes effect later
abbrev pub asked_lem : Act → Answer → Option Act
asked_lem later answer.Asked = Some later
asked_lem later _ = None

-- .. or at once
abbrev pub done_lem : Act → Act → Answer → Option Act
done_lem now later answer.Done = Some now
done_lem now later a = asked_lem later a

-- .. or is too late
abbrev pub late_lem : Answer → Option Act
late_lem answer.Late = Some act.Pass
late_lem a = asked_lem act.Pass a

-- a cancel of a request that stands so
abbrev pub cancelled_at_lem : ℕ → Standing → Answer → Option Act
cancelled_at_lem place (standing.Send sync) a = asked_lem (act.Mark place (standing.Recalled sync)) a
cancelled_at_lem place (standing.Recalled sync) a = asked_lem act.Pass a
cancelled_at_lem place standing.Withdrawn a = asked_lem act.Pass a
cancelled_at_lem place (standing.Open pattern cap) a =
    done_lem (act.Mark place standing.Off) (act.Mark place (standing.Marked pattern cap)) a
cancelled_at_lem place (standing.Marked pattern cap) a = done_lem (act.Mark place standing.Off) act.Pass a
cancelled_at_lem place standing.Off a = done_lem act.Pass act.Pass a
cancelled_at_lem place (standing.Taken cap message) a = late_lem a

-- a cancel
abbrev pub cancelled_lem : RankState → ℕ → Answer → Option Act
cancelled_lem rank q a = option_map_or (λ r. cancelled_at_lem r.place r.standing a) (live_lem rank q) (nulled_lem a)

-- the message of a send
abbrev pub message_of_lem : ℕ → ℕ → ℕ → ℕ → ℕ → Body → Message
message_of_lem place from to tag ctx body =
    record { place = place; from = from; to = to; tag = tag; ctx = ctx; len = body_len body }

-- what a pattern is made of
abbrev pub pattern_lem : peer.Peer → pick.TagPick → ℕ → Pattern
pattern_lem from tag ctx = record { from = from; tag = tag; ctx = ctx }

-- a command that starts a request
abbrev pub is_start_lem : Command → Bool
is_start_lem (command.Send to q tag ctx sync body) = true
is_start_lem (command.Recv q from tag ctx cap) = true
is_start_lem (command.Mrecv q m cap) = true
is_start_lem _ = false

-- What the command at a place of a rank does, where it tells this answer; a start that is taken tells none.
abbrev pub act_of_lem : List Line → List RankState → ℕ → RankState → ℕ → Command → Option Answer → Option Act
act_of_lem lines state i rank place (command.Send to q tag ctx sync body) told =
    started_lem (not (is_some (live_lem rank q))) (act.Send q sync (message_of_lem place i to tag ctx body)) told
act_of_lem lines state i rank place (command.Recv q from tag ctx cap) told =
    started_lem (not (is_some (live_lem rank q))) (act.Post q (pattern_lem from tag ctx) cap) told
act_of_lem lines state i rank place (command.Wait q) told = option_and_then (waited_lem lines rank q) told
act_of_lem lines state i rank place (command.Test q) told = option_and_then (tested_lem lines rank q) told
act_of_lem lines state i rank place (command.Probe from tag ctx) told =
    option_and_then (probed_lem (λ m. act.Pass) state i rank (pattern_lem from tag ctx)) told
act_of_lem lines state i rank place (command.Await from tag ctx) told =
    option_and_then (looked_lem (λ m. act.Pass) state i rank (pattern_lem from tag ctx)) told
act_of_lem lines state i rank place (command.Cancel q) told = option_and_then (cancelled_lem rank q) told
act_of_lem lines state i rank place (command.Mprobe m from tag ctx) told =
    option_and_then (claimed_lem state i rank m (pattern_lem from tag ctx)) told
act_of_lem lines state i rank place (command.Mrecv q m cap) told = received_lem rank q m cap told

-- A wait is held up by a send that no receive has, and by a receive that has no message.
abbrev pub holds_lem : Bool → Standing → Bool
holds_lem waiting (standing.Send sync) = waiting
holds_lem waiting (standing.Recalled sync) = waiting
holds_lem waiting (standing.Open pattern cap) = true
holds_lem waiting _ = false

-- a command that can be held up is: a wait, and an await where no rank has a message to show
abbrev pub is_held_lem : List RankState → ℕ → RankState → Command → Bool
is_held_lem state i rank (command.Wait q) = option_map_or (λ r. holds_lem (is_waiting_lem rank r.place) r.standing) (live_lem rank q) false
is_held_lem state i rank (command.Await from tag ctx) =
    not (list_any (λ sender. is_some (shown_to_lem sender i rank (pattern_lem from tag ctx))) state)
is_held_lem state i rank _ = false
