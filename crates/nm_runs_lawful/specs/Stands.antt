-- The state of the machine without arrivals that stands for a log so far. MPI 3.1, 3.5, 3.7, 3.8.
use Rattle.std.specs.Prelude.{◌≡◌, ℕ, ◌+◌, ◌-◌, ◌==◌, ◌&&◌, ◌||◌, Bool, false, if◌then◌else◌, Option}
use Rattle.std.specs.Prelude.{Some, None, List, [], ◌∷◌, ◌++◌, map, filter_map, fold, take, length, get_or}
use Rattle.std.specs.Prelude.{option_and_then, option_map}
use Rattle.std.specs.List.{list_any, range_with_len}
use Rattle.std.specs.Option.{option_map_or}
use Rattle.nm_types.specs.declared.messages.Arrival.{Arrival}
use Rattle.nm_types.specs.declared.scripts.Command.{Command}
use Rattle.nm_types.specs.declared.scripts.Command.TheVariants as command
use Rattle.nm_types.specs.declared.scripts.Line.{Line}
use Rattle.nm_types.specs.Commands.{Numbered, command_at, commands_of}
use Rattle.nm_types.specs.Sizes.{Sizes}
use Rattle.nm_history.specs.declared.events.Event.{Event}
use Rattle.nm_history.specs.declared.events.Happened.{Happened}
use Rattle.nm_history.specs.declared.events.Happened.TheVariants as event
use Rattle.nm_history.specs.declared.plain.Pair.{Pair}
use Rattle.nm_history.specs.Quiescence.{Ended, Packets}
use Rattle.nm_history.specs.RankRun.{is_cancelling, is_start, ran_lines, since_command}
use Rattle.nm_history.specs.Run.{IsRunOf}
use Rattle.nm_outcomes.specs.Due.{IsDue}
use Rattle.nm_outcomes.specs.Logs.{IsLog, IsLogOf, MayCome, Step, history_in}
use Rattle.nm_outcomes.specs.Moves.{ArePlaces, MayMove}
use Rattle.nm_outcomes.specs.Paths.{AreCommands, moved}
use Rattle.nm_outcomes.specs.Places.{RankPoint}
use Rattle.nm_outcomes.specs.Rests.{AreAtRest}
use Rattle.nm_lawful.specs.declared.messages.Claim.{Claim}
use Rattle.nm_lawful.specs.declared.messages.Message.{Message}
use Rattle.nm_lawful.specs.declared.messages.Request.{Request}
use Rattle.nm_lawful.specs.declared.messages.Standing.{Standing}
use Rattle.nm_lawful.specs.declared.messages.Standing.TheVariants as standing
use Rattle.nm_lawful.specs.Lawful.{IsEnd, IsPath}
use Rattle.nm_lawful.specs.Moves.{Report}
use Rattle.nm_lawful.specs.Ranks.{RankState}
use Rattle.nm_lawful.specs.Replies.{pattern_lem}
use Rattle.nm_runs_lawful.specs.Runs.{IsToldBy}

-- the name that a command gives its request, and the handle that it gives its message
abbrev pub name_of : Command → Option ℕ
name_of (command.Send to q tag ctx sync body) = Some q
name_of (command.Recv q from tag ctx cap) = Some q
name_of (command.Mrecv q m cap) = Some q
name_of _ = None

-- the handle of a matched probe
abbrev pub handle_of : Command → Option ℕ
handle_of (command.Mprobe m from tag ctx) = Some m
handle_of _ = None

-- a command is a synchronous send
abbrev pub is_sync : Command → Bool
is_sync (command.Send to q tag ctx sync body) = sync
is_sync _ = false

-- the line of a start
abbrev pub line_of : Happened → Option ℕ
line_of (event.Send to n tag ctx len how line) = Some line
line_of (event.Post p line) = Some line
line_of (event.Match number from n cap line) = Some line
line_of _ = None

-- how many commands of a rank took effect: those that ran, and one that started or cancels
abbrev pub is_begun : List Event → Bool
is_begun h = list_any (λ what. is_start what || is_cancelling what) (since_command h)

-- .. in number
abbrev pub effects : List Event → ℕ
effects h = length (ran_lines h) + (if is_begun h then 1 else 0)

-- the place behind the first commands of a rank, so many
abbrev pub behind : List Numbered → ℕ → ℕ
behind commands k = fold (λ place c. c.line - 1) 0 (take k commands)

-- the line is the one that the name of its command stands for, or it has just started
abbrev pub is_live_at : RankPoint → ℕ → ℕ → Bool
is_live_at place q line =
    option_map_or (λ l. l == line) (place.named q) false
    || list_any (λ what. option_map_or (λ l. l == line) (line_of what) false) place.begun

-- the message of an arrival at a rank
abbrev pub message_at : (ℕ → RankPoint) → ℕ → Arrival → Message
message_at w i a =
    record {
      place = get_or ((w a.env.from).lines i) a.n 0 - 2;
      from = a.env.from;
      to = i;
      tag = a.env.tag;
      ctx = a.env.ctx;
      len = a.env.len;
    }

-- the message of a receive
abbrev pub taken_by : (ℕ → RankPoint) → ℕ → Option Pair → Standing → Standing
taken_by w i None other = other
taken_by w i (Some pair) other = standing.Taken pair.cap (message_at w i pair.arrival)

-- how a start of a rank stands (3.7, 3.8.4)
abbrev pub standing_of : List Numbered → (ℕ → RankPoint) → ℕ → Happened → Standing
standing_of commands w i (event.Send to n tag ctx len how line) =
    let sync = option_map_or is_sync (command_at commands line) false in
    if (w to).withdrawn i n then standing.Withdrawn
    else if (w i).recalled to n then standing.Recalled sync
    else standing.Send sync
standing_of commands w i (event.Post p line) =
    if (w i).off p.number then standing.Off
    else taken_by w i ((w i).pairs p.number) (standing.Open (pattern_lem p.from p.tag p.ctx) p.cap)
standing_of commands w i (event.Match number from n cap line) =
    if (w i).off number then standing.Off else taken_by w i ((w i).pairs number) standing.Off
standing_of commands w i _ = standing.Off

-- the live request of an event, if it starts one
abbrev pub request_by : List Numbered → (ℕ → RankPoint) → ℕ → Happened → Option Request
request_by commands w i what =
    option_and_then
    (λ line. option_and_then
    (λ q. if is_live_at (w i) q line
    then Some (record { q = q; place = line - 2; standing = standing_of commands w i what }) else None)
    (option_and_then name_of (command_at commands line)))
    (line_of what)

-- the message of a send, if no receive has it and it was not withdrawn (3.5)
abbrev pub message_by : (ℕ → RankPoint) → ℕ → Happened → Option Message
message_by w i (event.Send to n tag ctx len how line) =
    if (w to).taken i n || (w to).withdrawn i n then None
    else Some (record { place = line - 2; from = i; to = to; tag = tag; ctx = ctx; len = len })
message_by w i _ = None

-- a matched receive of a message
abbrev pub is_match_of : ℕ → ℕ → Happened → Bool
is_match_of from n (event.Match number f k cap line) = f == from && k == n
is_match_of from n _ = false

-- .. has just started
abbrev pub is_matched_now : RankPoint → ℕ → ℕ → Bool
is_matched_now place from n = list_any (is_match_of from n) place.begun

-- the message of a claim, unless a matched receive of it has just started (3.8.3)
abbrev pub claimed_at : (ℕ → RankPoint) → ℕ → ℕ → ℕ → ℕ → Option Claim
claimed_at w i m from n =
    if is_matched_now (w i) from n then None
    else option_map (λ a. record { m = m; message = message_at w i a }) ((w i).known from n)

-- .. if its handle has it still (3.8.2)
abbrev pub claim_by : List Numbered → (ℕ → RankPoint) → ℕ → Happened → Option Claim
claim_by commands w i (event.Claim from n line) =
    option_and_then
    (λ m. if option_map_or (λ l. l == line) ((w i).handled m) false
    then claimed_at w i m from n else None)
    (option_and_then handle_of (command_at commands line))
claim_by commands w i _ = None

-- two places of a rank of which the machine shows the same
pub record LookAlike (p q : RankPoint) : Type 0 where
  pub live : (name line : ℕ) → is_live_at q name line ≡ is_live_at p name line
  pub handled : (m : ℕ) → q.handled m ≡ p.handled m
  pub matched : (from n : ℕ) → is_matched_now q from n ≡ is_matched_now p from n
  pub known : (from n : ℕ) → q.known from n ≡ p.known from n
  pub pairs : (number : ℕ) → q.pairs number ≡ p.pairs number
  pub off : (number : ℕ) → q.off number ≡ p.off number
  pub taken : (from n : ℕ) → q.taken from n ≡ p.taken from n
  pub withdrawn : (from n : ℕ) → q.withdrawn from n ≡ p.withdrawn from n
  pub recalled : (to n : ℕ) → q.recalled to n ≡ p.recalled to n
  pub lines : (to : ℕ) → q.lines to ≡ p.lines to

-- what other ranks' states show of a place is the same
pub record SeenAlike (p q : RankPoint) : Type 0 where
  pub taken : (from n : ℕ) → q.taken from n ≡ p.taken from n
  pub withdrawn : (from n : ℕ) → q.withdrawn from n ≡ p.withdrawn from n
  pub lines : (to : ℕ) → q.lines to ≡ p.lines to

-- .. and what the rank's own state shows of it, but for its names
pub record OwnAlike (p q : RankPoint) : Type 0 where
  pub handled : (m : ℕ) → q.handled m ≡ p.handled m
  pub matched : (from n : ℕ) → is_matched_now q from n ≡ is_matched_now p from n
  pub known : (from n : ℕ) → q.known from n ≡ p.known from n
  pub pairs : (number : ℕ) → q.pairs number ≡ p.pairs number
  pub off : (number : ℕ) → q.off number ≡ p.off number
  pub recalled : (to n : ℕ) → q.recalled to n ≡ p.recalled to n

-- .. of each rank
abbrev pub AreAlike : (ℕ → RankPoint) → (ℕ → RankPoint) → Type 0
AreAlike w v = (r : ℕ) → LookAlike (w r) (v r)

-- the state of a rank, behind its history
abbrev pub rank_of : List Line → (ℕ → RankPoint) → (ℕ → List Event) → ℕ → RankState
rank_of lines w so_far i =
    record {
      at = behind (commands_of i lines) (effects (so_far i));
      requests = filter_map (λ e. request_by (commands_of i lines) w i e.what) (so_far i);
      outgoing = filter_map (λ e. message_by w i e.what) (so_far i);
      claims = filter_map (λ e. claim_by (commands_of i lines) w i e.what) (so_far i);
    }

-- the state of all ranks, behind a log
abbrev pub state_of : ℕ → List Line → (ℕ → RankPoint) → List Step → List RankState
state_of ranks lines w log = map (rank_of lines w (history_in log)) (range_with_len 0 ranks)

-- a log of a run, of which these steps come before the others, and the places behind them
pub record IsSoFar (shape : Sizes) (lines : List Line) (ranks : List Ended) (before after : List Step)
    (w : ℕ → RankPoint) : Type 0 where
  pub whole : IsLogOf shape lines ranks (before ++ after)
  pub log : IsLog shape lines before
  pub places : ArePlaces lines before w

-- .. and the first of the others is this step
pub record IsNext (shape : Sizes) (lines : List Line) (ranks : List Ended) (before : List Step) (step : Step)
    (after : List Step) (w : ℕ → RankPoint) : Type 0 where
  pub so_far : IsSoFar shape lines ranks before (step ∷ after) w
  pub comes : MayCome shape lines (history_in before) step.rank step.event
  pub moves : MayMove shape lines w step.rank step.event.what
  pub due : IsDue shape.eager (commands_of step.rank lines) (history_in before step.rank) step.event.what

-- moves lead from one state to another
abbrev pub Leads : List Line → Report → List RankState → List RankState → Type 0
Leads lines told s t = (n : ℕ) × IsPath lines told None n s t

-- a run, and what it tells
pub record IsRunTold (shape : Sizes) (lines : List Line) (ranks : List Ended) (packets : List Packets)
    (told : Report) : Type 0 where
  pub commands : AreCommands shape.ranks lines
  pub run : IsRunOf shape lines ranks packets
  pub told_by : IsToldBy lines ranks told

-- moves lead from the state behind the log so far to the one behind the next step
abbrev pub StepLeads : Sizes → List Line → Report → List Step → Step → (ℕ → RankPoint) → Type 0
StepLeads shape lines told before step w =
    Leads lines told (state_of shape.ranks lines w before)
    (state_of shape.ranks lines (moved lines w step) (before ++ step ∷ []))

-- .. so at each step of each run
abbrev pub StepsLead : Type 0
StepsLead =
    (shape : Sizes) (lines : List Line) (ranks : List Ended) (packets : List Packets) (told : Report)
    (before : List Step) (step : Step) (after : List Step) (w : ℕ → RankPoint) →
    IsRunTold shape lines ranks packets told → IsNext shape lines ranks before step after w →
    StepLeads shape lines told before step w

-- the state behind a whole log is an end
abbrev pub EndsAreEnds : Type 0
EndsAreEnds =
    (shape : Sizes) (lines : List Line) (ranks : List Ended) (packets : List Packets) (told : Report)
    (log : List Step) (w : ℕ → RankPoint) →
    IsRunTold shape lines ranks packets told → IsLogOf shape lines ranks log → ArePlaces lines log w →
    AreAtRest shape lines w → IsEnd lines told None (state_of shape.ranks lines w log)
