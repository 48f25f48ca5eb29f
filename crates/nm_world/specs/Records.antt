-- What there is to tell of actors at rest.
use Rattle.std.specs.Prelude.{◌≡◌, ℕ, ◌+◌, nat_lt, Some, is_some, option_map, List, [], ◌∷◌, ◌++◌, map, filter, slice_get}
use Rattle.std.specs.List.{range_with_len}
use Rattle.nm_types.specs.Commands.{Numbered}
use Rattle.nm_history.specs.declared.events.Event.{Event}
use Rattle.nm_history.specs.Quiescence.{Ended, Packets}
use Rattle.nm_history.specs.Totals.{answers_given}
use Rattle.nm_cells.specs.declared.port.Port.{Port}
use Rattle.nm_cells.specs.Ports.{knows, sent_by}
use Rattle.nm_process.specs.Processes.{ProcessView}
use Rattle.nm_process.specs.Sources.{SourceView}
use Rattle.nm_world.specs.declared.players.Player.{Player}
use Rattle.nm_world.specs.declared.records.RankEnd.{RankEnd}
use Rattle.nm_world.specs.Players.{IsAtWork, WasTold}
use Rattle.nm_types.specs.declared.packets.Packet.{Packet}

-- a process at the end of its run: the command at which it waits is the next of these
abbrev pub ended_of : List Numbered → ProcessView → Ended
ended_of commands v =
    record {
      at = v.at;
      waits = option_map (λ c. c.line) (slice_get commands v.at);
      events = v.rank.events;
    }

-- what became of a rank, by the events that its recorder shows
abbrev pub end_by : {H : Type 0} → (H → List Event) → RankEnd H → Ended
end_by events rank = record { at = rank.at; waits = rank.waits; events = events rank.history }

-- so it is with each of these
abbrev pub ends_by : {H : Type 0} → (H → List Event) → List (RankEnd H) → List Ended
ends_by events ranks = map (λ rank. record { at = rank.at; waits = rank.waits; events = events rank.history }) ranks

-- a player's source counts the commands that its process ran, and was told the answers of its history
pub record HasHeard {S B H : Type 0} (shows : S → SourceView B) (x : Player S H) : Type 0 where
  pub at : (shows x.source).at ≡ x.actor.process.at
  pub told : WasTold (shows x.source) (answers_given x.actor.process.rank.events)

-- A source at the end of its rank: it counts the commands that ran, was told the answers of the rank's history,
-- and its next command, if there is one, is that in which the rank waits.
pub record HasStopped {S B : Type 0} (shows : S → SourceView B) (gives : S → List Numbered → ℕ → Type 0) (s : S)
    (e : Ended) : Type 0 where
  pub at : (shows s).at ≡ e.at
  pub told : WasTold (shows s) (answers_given e.events)
  pub waits :
      (commands : List Numbered) (last : ℕ) → gives s commands last →
      e.waits ≡ option_map (λ c. c.line) (slice_get commands (shows s).at)
  pub next : is_some e.waits ≡ is_some (shows s).next

-- how many packets a port sent to each of n ranks, where there are some
abbrev pub counts_to : ℕ → Port Packet → List Packets
counts_to n p =
    filter (λ x. nat_lt 0 x.count)
    (map (λ to. record { from = p.rank; to = to; count = sent_by p to }) (range_with_len 0 n))

-- so it is with the ports of these players
abbrev pub counts_of : {S H : Type 0} → ℕ → List (Player S H) → List Packets
counts_of n [] = []
counts_of n (x ∷ players) = counts_to n x.actor.port ++ counts_of n players

-- the source of each of these players gives the commands of its rank, from the rank k on
abbrev pub AreAtWork :
    {S B H : Type 0} → (S → SourceView B) → (S → List Numbered → ℕ → Type 0) → (ℕ → List Numbered) → ℕ →
    List (Player S H) →
    Type 0
AreAtWork shows gives commands k [] = Unit {0}
AreAtWork shows gives commands k (x ∷ players) =
    IsAtWork shows gives x (commands k) × AreAtWork shows gives commands (k + 1) players

-- the processes of these players at the end, by the commands of the ranks from k on
abbrev pub ended_from : {S H : Type 0} → (ℕ → List Numbered) → ℕ → List (Player S H) → List Ended
ended_from commands k [] = []
ended_from commands k (x ∷ players) = ended_of (commands k) x.actor.process ∷ ended_from commands (k + 1) players

-- the ports of these players know of n ranks
abbrev pub AreKnown : {S H : Type 0} → ℕ → List (Player S H) → Type 0
AreKnown {S} {H} n players = (k : ℕ) (x : Player S H) → slice_get players k ≡ Some x → (knows x.actor.port).ranks ≡ n
