-- A run as one list of events, in an order in which they may have come.
use Rattle.std.specs.Prelude.{◌≡◌, ℕ, ◌<◌, ◌==◌, if◌then◌else◌, Option, Some, None, List, [], ◌∷◌, ◌++◌}
use Rattle.std.specs.Prelude.{filter_map}
use Rattle.nm_types.specs.declared.scripts.Line.{Line}
use Rattle.nm_types.specs.Commands.{commands_of}
use Rattle.nm_types.specs.Sizes.{Sizes}
use Rattle.nm_history.specs.declared.events.Event.{Event}
use Rattle.nm_history.specs.Delivery.{AreDelivered}
use Rattle.nm_history.specs.Growing.{MayReceive, MaySend}
use Rattle.nm_history.specs.Quiescence.{Ended, Packets, history_of}
use Rattle.nm_history.specs.Run.{IsRunOf}
use Rattle.nm_history.specs.Underway.{MayFollow}

-- an event of a rank
pub record Step : Type 0 where
  pub rank : ℕ
  pub event : Event

-- the event of a step, if it is of this rank
abbrev pub event_of : ℕ → Step → Option Event
event_of rank step = if step.rank == rank then Some step.event else None

-- the history of a rank, as a log has it
abbrev pub history_in : List Step → ℕ → List Event
history_in log rank = filter_map (λ step. event_of rank step) log

-- The event of a rank may come next, where these are the histories so far: by the rules of the
-- rank's own run, by those of the messages from it to each rank, and of those from each rank to it.
pub record MayCome (shape : Sizes) (lines : List Line) (so_far : ℕ → List Event) (rank : ℕ) (e : Event)
    : Type 0 where
  pub within : rank < shape.ranks
  pub own : MayFollow shape (commands_of rank lines) (so_far rank) e
  pub sends : (j : ℕ) → j < shape.ranks → MaySend rank j (so_far rank) (so_far j) e
  pub receives :
      (i : ℕ) → i < shape.ranks →
      MayReceive i rank (commands_of i lines) (commands_of rank lines) (so_far i) (so_far rank) e

-- each of these steps may come after those before it, of which the first ones are given
abbrev pub MayComeAfter : Sizes → List Line → List Step → List Step → Type 0
MayComeAfter shape lines before [] = Unit {0}
MayComeAfter shape lines before (step ∷ steps) =
    MayCome shape lines (history_in before) step.rank step.event
    × MayComeAfter shape lines (before ++ step ∷ []) steps

-- each step may come after those before it
abbrev pub IsLog : Sizes → List Line → List Step → Type 0
IsLog shape lines log = MayComeAfter shape lines [] log

-- a log of the histories of these ranks
pub record IsLogOf (shape : Sizes) (lines : List Line) (ranks : List Ended) (log : List Step) : Type 0 where
  pub steps : IsLog shape lines log
  pub histories : (i : ℕ) → history_in log i ≡ history_of ranks i

-- each run of a script has a log
abbrev pub RunsHaveLogs : Type 0
RunsHaveLogs =
    (shape : Sizes) (lines : List Line) (ranks : List Ended) (packets : List Packets) →
    IsRunOf shape lines ranks packets → (log : List Step) × IsLogOf shape lines ranks log

-- the histories of a log are delivered at each moment: between each two ranks no message was lost,
-- made up, changed or overtaken
abbrev pub LogsDeliver : Type 0
LogsDeliver =
    (shape : Sizes) (lines : List Line) (log : List Step) → IsLog shape lines log →
    (i j : ℕ) → i < shape.ranks → j < shape.ranks →
    AreDelivered i j (commands_of i lines) (commands_of j lines) (history_in log i) (history_in log j)
