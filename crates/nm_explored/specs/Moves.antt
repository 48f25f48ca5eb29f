-- The moves of a script's ranks, by the states of all of them.
use Rattle.std.specs.Prelude.{◌≡◌, ◌⊎◌, ℕ, ◌<◌, ◌^◌, ◌++◌, true, false, if◌then◌else◌, Option, Some, None, List, [], ◌∷◌}
use Rattle.std.specs.Prelude.{count_by, option_map}
use Rattle.std.specs.List.{slice_get}
use Rattle.nm_types.specs.declared.messages.Arrival.{Arrival}
use Rattle.nm_types.specs.declared.scripts.Command.{Command}
use Rattle.nm_types.specs.declared.scripts.Line.{Line}
use Rattle.nm_types.specs.Commands.{command_at, commands_of}
use Rattle.nm_types.specs.Limits.{IsScript, sent_len}
use Rattle.nm_types.specs.Sizes.{Sizes}
use Rattle.nm_history.specs.declared.events.Event.{Event}
use Rattle.nm_history.specs.Answers.{request_at}
use Rattle.nm_history.specs.Completion.Request.{Sending}
use Rattle.nm_outcomes.specs.Due.{AreAtLines, IsDue}
use Rattle.nm_outcomes.specs.Logs.{IsLog, MayCome, Step, history_in}
use Rattle.nm_outcomes.specs.Places.{is_quiet}
use Rattle.nm_outcomes.specs.declared.spots.deeds.Deed.{Deed}
use Rattle.nm_outcomes.specs.declared.spots.deeds.Deed.TheVariants as deed
use Rattle.nm_match.specs.declared.names.Message.{Message}
use Rattle.nm_outcomes.specs.declared.spots.deeds.Reply.TheVariants as reply
use Rattle.nm_outcomes.specs.Looks.{is_answer_by}
use Rattle.nm_outcomes.specs.RankStates.{IsSpotOf, Spot, arrived_at, spot_after, withdrawn_at}
use Rattle.nm_explored.specs.declared.choices.moves.Move.{Move}
use Rattle.nm_explored.specs.declared.choices.moves.Move.TheVariants as move
use Rattle.nm_explored.specs.declared.choices.moves.Turn.{Turn}
use Rattle.nm_explored.specs.Lines.{line_in}
use Rattle.nm_search.specs.Lists.{Has}
use Rattle.nm_explored.specs.Successors.{answer_in, begun_in, is_test_of, is_withdrawn_next, message_next}

-- a rank's state after a move
abbrev pub moved_at : Spot → Move → Spot
moved_at spot (move.Act d) = spot_after spot d
moved_at spot (move.Arrive a) = arrived_at spot a
moved_at spot (move.Withdraw m) = withdrawn_at spot m.rank m.n

-- the answer of a test that its request is not complete
abbrev pub no_in : List Line → ℕ → Spot → ℕ → Command → Option Deed
no_in lines i spot line c = if is_test_of lines i spot c then Some (deed.Ran line reply.No) else None

-- the answer of the command of a line, as a deed
abbrev pub reply_in : (ℕ → Option Spot) → List Line → ℕ → Spot → ℕ → Command → Option Deed
reply_in v lines i spot line c = option_map (λ r. deed.Ran line r) (answer_in v lines i spot line c)

-- the command of a line does this, or has this answer
abbrev pub IsDeedOf : ℕ → List Line → (ℕ → Option Spot) → ℕ → Spot → ℕ → Command → Deed → Type 0
IsDeedOf eager lines v i spot line c d =
    ((sent_len c < 2 ^ 32) × (begun_in eager lines i spot line c ≡ Some d))
    ⊎ ((reply_in v lines i spot line c ≡ Some d) ⊎ (no_in lines i spot line c ≡ Some d))

-- the next command of a rank in this state does this, or has this answer
pub record IsAct (eager : ℕ) (lines : List Line) (v : ℕ → Option Spot) (i : ℕ) (spot : Spot) (d : Deed) : Type 0 where
  pub line : ℕ
  pub command : Command
  pub place : line_in lines i (count_by is_answer_by spot.deeds) ≡ Some line
  pub at : command_at (commands_of i lines) line ≡ Some command
  pub deed_of : IsDeedOf eager lines v i spot line command d

-- the next message under way from a rank
pub record IsNextMessage (ranks : ℕ) (v : ℕ → Option Spot) (i : ℕ) (a : Arrival) : Type 0 where
  pub from : ℕ
  pub within : from < ranks
  pub next : message_next v i from ≡ Some a

-- a message that came to a rank in this state may be withdrawn
pub record IsRecalled (v : ℕ → Option Spot) (i : ℕ) (spot : Spot) (m : Message) : Type 0 where
  pub place : ℕ
  pub arrival : Arrival
  pub came : slice_get spot.came place ≡ Some arrival
  pub message : record { rank = arrival.env.from; n = arrival.n } ≡ m
  pub free : is_withdrawn_next v i arrival.env.from arrival.n ≡ true

-- a rank in this state may make this move, by the states of all ranks
abbrev pub IsChoiceOf : ℕ → ℕ → List Line → (ℕ → Option Spot) → ℕ → Spot → Move → Type 0
IsChoiceOf eager ranks lines v i spot (move.Act d) = IsAct eager lines v i spot d
IsChoiceOf eager ranks lines v i spot (move.Arrive a) = IsNextMessage ranks v i a
IsChoiceOf eager ranks lines v i spot (move.Withdraw m) = IsRecalled v i spot m

-- all moves of a rank are among these
abbrev pub AreMovesOf : ℕ → ℕ → List Line → (ℕ → Option Spot) → ℕ → List Turn → Type 0
AreMovesOf eager ranks lines v i turns =
    (spot : Spot) → v i ≡ Some spot → (by : Move) → IsChoiceOf eager ranks lines v i spot by →
    Has turns (record { rank = i; by = by })

-- a rank in this state may make the move of a turn
abbrev pub IsTurnOf : ℕ → ℕ → List Line → (ℕ → Option Spot) → ℕ → Spot → Turn → Type 0
IsTurnOf eager ranks lines v i spot t = (t.rank ≡ i) × IsChoiceOf eager ranks lines v i spot t.by

-- a turn is a move that its rank may make in these states
pub record IsTurn (eager ranks : ℕ) (lines : List Line) (v : ℕ → Option Spot) (t : Turn) : Type 0 where
  pub spot : Spot
  pub here : v t.rank ≡ Some spot
  pub choice : IsChoiceOf eager ranks lines v t.rank spot t.by

-- what a script sends at once is short
abbrev pub AreSendsShort : List Line → Type 0
AreSendsShort lines =
    (i line : ℕ) (c : Command) → command_at (commands_of i lines) line ≡ Some c → sent_len c < 4294967296

-- the ranks are in these states after a log
abbrev pub AreSpots : ℕ → List Line → List Step → (ℕ → Option Spot) → Type 0
AreSpots ranks lines log v =
    (j : ℕ) → j < ranks → (s : Spot) × (v j ≡ Some s) × IsSpotOf lines (history_in log j) s

-- a move of the rank makes of its state what this history says
pub record IsChosen (shape : Sizes) (lines : List Line) (v : ℕ → Option Spot) (i : ℕ) (spot : Spot) (h : List Event)
    : Type 0 where
  pub by : Move
  pub choice : IsChoiceOf shape.eager shape.ranks lines v i spot by
  pub state : IsSpotOf lines h (moved_at spot by)

-- what may come next in a log, and is not quiet, is a move of the ranks' states
abbrev pub EventsAreChoices : Type 0
EventsAreChoices =
    (shape : Sizes) (lines : List Line) (log : List Step) (v : ℕ → Option Spot) (i : ℕ) (e : Event) (spot : Spot) →
    IsScript shape.ranks lines → IsLog shape lines log → AreSpots shape.ranks lines log v →
    AreAtLines (commands_of i lines) →
    ((line to n : ℕ) → request_at (history_in log i) line ≡ Some (Sending to n) → to < shape.ranks) →
    MayCome shape lines (history_in log) i e →
    IsDue shape.eager (commands_of i lines) (history_in log i) e.what → is_quiet e.what ≡ false →
    v i ≡ Some spot → IsChosen shape lines v i spot (history_in log i ++ e ∷ [])
