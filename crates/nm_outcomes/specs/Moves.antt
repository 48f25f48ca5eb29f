-- The moves of a script's ranks: what may happen next, by their places alone.
use Rattle.std.specs.Prelude.{◌≡◌, ◌⊎◌, ℕ, ◌<◌, ◌&&◌, ◌||◌, Bool, true, false, not, if◌then◌else◌, is_some}
use Rattle.std.specs.Prelude.{IfSome, IsSomeAnd, MatchOption, Option, Some, None, option_and_then, option_map, List}
use Rattle.std.specs.Prelude.{[], ◌∷◌}
use Rattle.std.specs.Prelude.{find}
use Rattle.std.specs.List.{slice_get}
use Rattle.std.specs.Option.{option_map_or}
use Rattle.nm_types.specs.declared.answers.Answer.{Answer}
use Rattle.nm_types.specs.declared.answers.Answer.TheVariants as answer
use Rattle.nm_types.specs.declared.messages.Arrival.{Arrival}
use Rattle.nm_types.specs.declared.messages.Peer.{Peer}
use Rattle.nm_types.specs.declared.messages.TagPick.{TagPick}
use Rattle.nm_types.specs.declared.scripts.Command.{Command}
use Rattle.nm_types.specs.declared.scripts.Command.TheVariants as command
use Rattle.nm_types.specs.declared.scripts.Line.{Line}
use Rattle.nm_types.specs.Commands.{Numbered, command_at, commands_of}
use Rattle.nm_types.specs.Sizes.{Sizes}
use Rattle.nm_history.specs.declared.events.Happened.{Happened}
use Rattle.nm_history.specs.declared.events.Happened.TheVariants.{Arrive, Cancel, Claim, Match, Post, Ran}
use Rattle.nm_history.specs.declared.events.Happened.TheVariants.{Recall, Send, Withdraw}
use Rattle.nm_history.specs.Answers.{Message, seen, without_bytes}
use Rattle.nm_history.specs.Completion.{Request, shown}
use Rattle.nm_history.specs.Completion.Request.{Receiving, Sending}
use Rattle.nm_history.specs.RankRun.{start_of, without_number}
use Rattle.nm_history.specs.Selection.{matches}
use Rattle.nm_history.specs.Sends.{sent_bytes}
use Rattle.nm_history.specs.declared.plain.Pair.{Pair}
use Rattle.nm_outcomes.specs.Due.{AreAtLines, IsDue, cancel_of, receive_of}
use Rattle.nm_outcomes.specs.Logs.{IsLog, MayCome, Step, history_in}
use Rattle.nm_outcomes.specs.Places.{IsPlaceOf, RankPoint}
use Rattle.nm_history.specs.declared.events.Event.{Event}

-- the live request of a name
abbrev pub request_now : RankPoint → ℕ → Option Request
request_now place q = option_and_then place.requests (place.named q)

-- the live message of a handle
abbrev pub message_now : RankPoint → ℕ → Option Message
message_now place m = option_and_then place.claims (place.handled m)

-- the oldest free message that is selected
abbrev pub found_in : RankPoint → Peer → TagPick → ℕ → Option Arrival
found_in place from tag ctx = find (λ a. matches from tag ctx a.env) place.messages

-- a message is free
abbrev pub is_free_in : RankPoint → ℕ → ℕ → Bool
is_free_in place from n = not (place.taken from n) && not (place.claimed from n) && not (place.withdrawn from n)

-- what a request of rank i may end with by now
abbrev pub may_show : (ℕ → RankPoint) → ℕ → Request → Option Answer
may_show w i (Receiving number) =
    if (w i).off number then Some answer.Cancelled else option_map shown ((w i).pairs number)
may_show w i (Sending j n) =
    if (w j).withdrawn i n then Some answer.Cancelled
    else if ((w i).unasked j n || (w j).taken i n)
    && (not ((w i).recalled j n) || ((w j).arrived i n && not (is_free_in (w j) i n)))
    then Some answer.Sent
    else None

-- the answer to a cancel
abbrev pub cancel_in : RankPoint → Request → Answer
cancel_in place (Receiving number) = if is_some (place.pairs number) then answer.Late else answer.Done
cancel_in place (Sending to n) = answer.Asked

-- the answer of a command that is no wait and no test
abbrev pub answer_in : RankPoint → ℕ → Command → Option Answer
answer_in place line (command.Send to q tag ctx sync body) =
    Some (if is_some (request_now place q) then answer.Busy else answer.Started)
answer_in place line (command.Recv q from tag ctx cap) =
    Some (if is_some (request_now place q) then answer.Busy else answer.Started)
answer_in place line (command.Wait q) = None
answer_in place line (command.Test q) = None
answer_in place line (command.Probe from tag ctx) =
    Some (option_map_or seen (found_in place from tag ctx) answer.Nothing)
answer_in place line (command.Await from tag ctx) = option_map seen (found_in place from tag ctx)
answer_in place line (command.Cancel q) =
    Some (option_map_or (cancel_in place) (request_now place q) answer.Null)
answer_in place line (command.Mprobe m from tag ctx) =
    if is_some (message_now place m) then Some answer.Busy
    else option_map_or (λ a. Some (seen a))
    (option_and_then (λ message. place.known message.from message.n) (place.claims line))
    (if is_some (found_in place from tag ctx) then None else Some answer.Nothing)
answer_in place line (command.Mrecv q m cap) =
    Some
    (if is_some (request_now place q) then answer.Busy
    else if is_some (message_now place m) then answer.Started
    else answer.Null)

-- the command of a line of rank i may have this answer
abbrev pub MayAnswer : (ℕ → RankPoint) → ℕ → ℕ → Command → Answer → Type 0
MayAnswer w i line (command.Wait q) a =
    MatchOption (request_now (w i) q) (a ≡ answer.Null) (λ request. may_show w i request ≡ Some a)
MayAnswer w i line (command.Test q) a =
    MatchOption (request_now (w i) q) (a ≡ answer.Null)
    (λ request. (a ≡ answer.No) ⊎ (may_show w i request ≡ Some a))
MayAnswer w i line c a = answer_in (w i) line c ≡ Some a

-- a start is that of the next command, and its first
pub record Starts (eager : ℕ) (commands : List Numbered) (place : RankPoint) (what : Happened) : Type 0 where
  pub command : Numbered
  pub next : slice_get commands place.done ≡ Some command
  pub first : place.begun ≡ []
  pub start : without_number what ∷ [] ≡ start_of eager commands [] command.line command.command

-- an answer is one that the next command may have
pub record Answers (w : ℕ → RankPoint) (i : ℕ) (commands : List Numbered) (line : ℕ) (a : Answer) : Type 0 where
  pub command : Numbered
  pub next : slice_get commands (w i).done ≡ Some command
  pub line_is : command.line ≡ line
  pub may : MayAnswer w i line command.command (without_bytes a)

-- what a matched probe claims
abbrev pub claim_in : RankPoint → ℕ → Command → List Happened
claim_in place line (command.Mprobe m from tag ctx) =
    option_map_or (λ a. Claim a.env.from a.n line ∷ []) (found_in place from tag ctx) []
claim_in place line _ = []

-- the receive of a request, with its message
abbrev pub pair_in : RankPoint → Request → Option Pair
pair_in place (Receiving number) = place.pairs number
pair_in place (Sending to n) = None

-- the receive whose bytes a wait or a test shows, with its message
abbrev pub asked_in : RankPoint → Command → Option Pair
asked_in place (command.Wait q) = option_and_then (pair_in place) (request_now place q)
asked_in place (command.Test q) = option_and_then (pair_in place) (request_now place q)
asked_in place _ = None

-- the bytes are those that the line of the message's send says
abbrev pub AreBytesOf : Sizes → List Line → (ℕ → RankPoint) → ℕ → List ℕ → Pair → Type 0
AreBytesOf shape lines w i body pair =
    pair.arrival.env.from < shape.ranks →
    IsSomeAnd (slice_get ((w pair.arrival.env.from).lines i) pair.arrival.n)
    (λ line. IsSomeAnd (command_at (commands_of pair.arrival.env.from lines) line) (λ c. body ≡ sent_bytes c))

-- an answer that has bytes has those of its message
abbrev pub ShowsBytes : Sizes → List Line → (ℕ → RankPoint) → ℕ → Answer → Command → Type 0
ShowsBytes shape lines w i (answer.Got source tag body) c =
    IfSome (asked_in (w i) c) (AreBytesOf shape lines w i body)
ShowsBytes shape lines w i _ c = Unit {0}

-- the next command stands at this line
pub record IsAtLine (commands : List Numbered) (place : RankPoint) (line : ℕ) : Type 0 where
  pub command : Numbered
  pub next : slice_get commands place.done ≡ Some command
  pub line_is : command.line ≡ line

-- the next command cancels this live request
pub record Cancels (commands : List Numbered) (place : RankPoint) (request : Request) : Type 0 where
  pub command : Numbered
  pub next : slice_get commands place.done ≡ Some command
  pub name : ℕ
  pub cancels : command.command ≡ cancel_of name
  pub live_is : request_now place name ≡ Some request

-- the next command, of this line, receives message n of this rank, which its handle stands for
pub record Matches (commands : List Numbered) (place : RankPoint) (from n cap line : ℕ) : Type 0 where
  pub command : Numbered
  pub next : slice_get commands place.done ≡ Some command
  pub line_is : command.line ≡ line
  pub name : ℕ
  pub handle : ℕ
  pub receives : command.command ≡ receive_of name handle cap
  pub message_is : message_now place handle ≡ Some (record { from = from; n = n })
  pub not_taken : place.taken from n ≡ false

-- This may happen next at a rank. That a message is whole, has left, or that the answer to a recall
-- came, is no move, and changes nothing.
abbrev pub MayMove : Sizes → List Line → (ℕ → RankPoint) → ℕ → Happened → Type 0
MayMove shape lines w i (Send to n tag ctx len how line) =
    Starts shape.eager (commands_of i lines) (w i) (Send to n tag ctx len how line)
MayMove shape lines w i (Post p line) = Starts shape.eager (commands_of i lines) (w i) (Post p line)
MayMove shape lines w i (Match number from n cap line) =
    Matches (commands_of i lines) (w i) from n cap line
MayMove shape lines w i (Claim from n line) =
    IsAtLine (commands_of i lines) (w i) line
    × IsSomeAnd (command_at (commands_of i lines) line) (λ c. claim_in (w i) line c ≡ Claim from n line ∷ [])
MayMove shape lines w i (Cancel number done) =
    Cancels (commands_of i lines) (w i) (Receiving number) × (done ≡ not (is_some ((w i).pairs number)))
MayMove shape lines w i (Recall to n) =
    Cancels (commands_of i lines) (w i) (Sending to n) × ((w i).recalled to n ≡ false)
MayMove shape lines w i (Withdraw from n done) =
    ((w i).arrived from n ≡ true) × (done ≡ is_free_in (w i) from n)
    × (from < shape.ranks → (w from).recalled i n ≡ true)
MayMove shape lines w i (Arrive a) =
    (slice_get ((w a.env.from).sent i) ((w i).came a.env.from) ≡ Some a.env)
    × (a.n ≡ (w i).came a.env.from)
MayMove shape lines w i (Ran line a) =
    Answers w i (commands_of i lines) line a
    × IsSomeAnd (command_at (commands_of i lines) line) (ShowsBytes shape lines w i a)
MayMove shape lines w i _ = Unit {0}

-- the ranks are at these places after a log
abbrev pub ArePlaces : List Line → List Step → (ℕ → RankPoint) → Type 0
ArePlaces lines log w = (i : ℕ) → IsPlaceOf i (commands_of i lines) (history_in log i) (w i)

-- the requests of rank i are of ranks of the run
abbrev pub AreWithin : ℕ → RankPoint → Type 0
AreWithin ranks place =
    (line to n : ℕ) → place.requests line ≡ Some (Sending to n) → to < ranks

-- the next step of a run is a move of the ranks' places
abbrev pub StepsAreMoves : Type 0
StepsAreMoves =
    (shape : Sizes) (lines : List Line) (log : List Step) (w : ℕ → RankPoint) (i : ℕ) (e : Event) →
    IsLog shape lines log → ArePlaces lines log w → AreAtLines (commands_of i lines) →
    AreWithin shape.ranks (w i) → MayCome shape lines (history_in log) i e →
    IsDue shape.eager (commands_of i lines) (history_in log i) e.what →
    MayMove shape lines w i e.what
