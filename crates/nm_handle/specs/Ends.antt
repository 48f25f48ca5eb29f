-- The end of a world that its callers drove.
use Rattle.std.specs.Prelude.{◌≡◌, ◌⊎◌, ℕ, ◌*◌, Bool, true, List, [], ◌∷◌, map, unwrap_or}
use Rattle.std.specs.Arc.{arc_value}
use Rattle.std.specs.List.{AllZip, slice_get}
use Rattle.nm_types.specs.declared.answers.Account.{Account}
use Rattle.nm_types.specs.declared.packets.Packet.{Packet}
use Rattle.nm_types.specs.Commands.{Numbered}
use Rattle.nm_types.specs.Sizes.{Sizes}
use Rattle.nm_history.specs.Quiescence.{Ended, Packets}
use Rattle.nm_cells.specs.declared.closed.Closed.{Closed}
use Rattle.nm_copyring.specs.declared.close.RingAccount.{RingAccount}
use Rattle.nm_channels.specs.Finished.{AreInRange}
use Rattle.nm_rank.specs.declared.journal.erased.Erased.{Erased}
use Rattle.nm_report.specs.Ends.{are_done, packets_of}
use Rattle.nm_process.specs.Playing.{all_numbered}
use Rattle.nm_world.specs.declared.players.Player.{Player}
use Rattle.nm_world.specs.declared.whole.Rested.{Rested}
use Rattle.nm_world.specs.Actors.{did}
use Rattle.nm_world.specs.Players.{AreGiven}
use Rattle.nm_world.specs.Records.{ended_from, ends_by}
use Rattle.nm_world.specs.Runs.{AllAgree, IsWholeOf, SomeMoves}
use Rattle.nm_calls.specs.Calling.{CallsView, ahead, gave, shown}
use Rattle.nm_handle.specs.declared.ends.Unended.{Unended}
use Rattle.nm_handle.specs.declared.ends.Unended.TheVariants as unended
use Rattle.nm_handle.specs.declared.handles.Handle.{Handle}
use Rattle.nm_handle.specs.declared.states.State.TheVariants as state
use Rattle.nm_handle.specs.Standing.{HasTurned, calls_of, process_of}

-- the calls of each of these ranks as its commands, the k-th one, from 0, with line k + 2
abbrev pub calls_by_rank : List Handle → ℕ → List Numbered
calls_by_rank handles i = all_numbered 2 (unwrap_or (slice_get (map (λ h. ahead (calls_of h)) handles) i) [])

-- this became of a rank: as many of its calls ran, and this is what happened
pub record HasEndedSo (h : Handle) (e : Ended) : Type 0 where
  pub at : e.at ≡ (process_of h).at
  pub events : e.events ≡ (process_of h).rank.events

-- The calls of these ranks and their answers are those of a lawful run that is at rest, whatever their callers did
-- and in which order: the histories of the ranks are a run of the calls, in which each call has the answer that it
-- was told, and what went from rank to rank is what they call for. It is told whether no rank waits (MPI 3.1, 3.5:
-- order and progress).
pub record HaveRun (shape : Sizes) (handles : List Handle) (done : Bool) (account : Account) (cells : Closed Packet)
    (rings : RingAccount) : Type 0 where
  pub ends : List Ended
  pub packets : List Packets
  pub each : AllZip HasEndedSo handles ends
  pub whole : IsWholeOf shape (calls_by_rank handles) ends packets account cells rings
  pub done_is : done ≡ are_done ends

-- what becomes of players of a world of this shape that are at rest, whatever commands their sources gave
pub record AreClosed (shape : Sizes) (players : List (Player CallsView Erased)) (x : Rested CallsView Erased)
    : Type 0 where
  pub run :
      (commands : ℕ → List Numbered) → AreInRange shape.ranks commands →
      AreGiven gave commands 0 (map (λ p. p.source) players) →
      IsWholeOf shape commands (ends_by (λ (h : Erased). h.all) x.ranks.items) (packets_of x.pairs) x.cells
      x.ways.cells x.ways.rings
  pub ends :
      (commands : ℕ → List Numbered) → AreGiven gave commands 0 (map (λ p. p.source) players) →
      ends_by (λ (h : Erased). h.all) x.ranks.items ≡ ended_from commands 0 players
  pub all : x.cells.total ≡ shape.ranks * shape.cells
  pub home : x.cells.home ≡ x.cells.total
  pub done : x.done ≡ are_done (ends_by (λ (h : Erased). h.all) x.ranks.items)

-- one of these ranks has failed
abbrev pub SomeFailed : List Handle → Type 0
SomeFailed [] = ⊥
SomeFailed (h ∷ hs) = (h.state ≡ state.Failed) ⊎ SomeFailed hs

-- one of these can move, or something that one sent was not taken
abbrev pub AreUnderWay : List (Player CallsView Erased) → Type 0
AreUnderWay players = SomeMoves shown gave players ⊎ (¬ AllAgree players)

-- why players that have not failed have no end
abbrev pub KeepsOpen : List (Player CallsView Erased) → Unended → Type 0
KeepsOpen players unended.Failed = ⊥
KeepsOpen players unended.Moves = AreUnderWay players
KeepsOpen players _ = Unit {0}

-- why these ranks have none
abbrev pub IsWhy : List Handle → Unended → Type 0
IsWhy handles unended.Failed = SomeFailed handles
IsWhy handles unended.Moves = AreUnderWay (map (λ h. h.player) handles)
IsWhy handles _ = Unit {0}

-- a turn was made that did something
pub record HasMoved (a b : Handle) : Type 0 where
  pub turned : HasTurned a b
  pub moved : did (arc_value a.fabric).ranks a.player.actor b.player.actor ≡ true

-- why a rank is not at rest at its place, and what was done to it
abbrev pub IsRestless : Handle → Handle → Unended → Type 0
IsRestless a b unended.Failed = (a.state ≡ state.Failed) × (b ≡ a)
IsRestless a b unended.Moves = HasMoved a b
IsRestless a b unended.Shared = HasTurned a b
IsRestless a b unended.Memory = Unit {0}
