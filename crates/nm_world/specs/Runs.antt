-- All players of a run, in their places.
use Rattle.std.specs.Prelude.{◌≡◌, ℕ, ◌+◌, ◌<◌, ◌==◌, ◌&&◌, List, [], ◌∷◌, length, slice_get}
use Rattle.std.specs.Prelude.{find, Some}
use Rattle.std.specs.Option.{option_map_or}
use Rattle.nm_types.specs.declared.scripts.Line.{Line}
use Rattle.nm_types.specs.Commands.{Numbered}
use Rattle.nm_types.specs.Sizes.{Sizes}
use Rattle.nm_types.specs.declared.answers.Account.{Account}
use Rattle.nm_history.specs.Quiescence.{Ended, Packets, commands_by_rank}
use Rattle.nm_history.specs.Run.{IsRunBy}
use Rattle.nm_report.specs.Ends.{ends_of, packets_of}
use Rattle.nm_report.specs.declared.records.RunRecord.{RunRecord}
use Rattle.nm_cells.specs.declared.port.Fabric.{Fabric}
use Rattle.nm_cells.specs.declared.port.Port.{Port}
use Rattle.nm_cells.specs.declared.closed.Closed.{Closed}
use Rattle.nm_cells.specs.ClosedLists.{ranks_of, sent_list, taken_list}
use Rattle.nm_cells.specs.Ports.{IsNew, knows, sent_by, taken_by}
use Rattle.nm_copyring.specs.declared.close.RingAccount.{RingAccount}
use Rattle.nm_copyring.specs.declared.port.RingPort.{RingPort}
use Rattle.nm_copyring.specs.declared.port.Rings.{Rings}
use Rattle.nm_copyring.specs.Ports as ring_port
use Rattle.nm_process.specs.Sources.{SourceView}
use Rattle.nm_world.specs.declared.actors.Actor.{Actor}
use Rattle.nm_world.specs.declared.players.Player.{Player}
use Rattle.nm_world.specs.Actors.{seat_of}
use Rattle.nm_world.specs.Players.{IsAtWork, PlayerInvariant}
use Rattle.nm_world.specs.Rest.{CanMove, Each, IsCarried, IsStill}
use Rattle.nm_types.specs.declared.packets.Packet.{Packet}

-- the players stand, and are those of the ranks from k on, in order
abbrev pub InPlace :
    {S B H : Type 0} → (S → SourceView B) → (S → List Numbered → ℕ → Type 0) → Sizes → Fabric Packet → Rings → ℕ →
    List (Player S H) → Type 0
InPlace shows gives shape f r k [] = Unit {0}
InPlace shows gives shape f r k (x ∷ players) =
    PlayerInvariant shows gives f r x × (seat_of x.actor ≡ record { rank = k; sizes = shape })
    × InPlace shows gives shape f r (k + 1) players

-- whatever commands of these a player's source gives and its actor stands at, it is still
abbrev pub IsStillAt :
    {S B H : Type 0} → (S → SourceView B) → (S → List Numbered → ℕ → Type 0) → Player S H → Type 0
IsStillAt shows gives x =
    (commands : List Numbered) → IsAtWork shows gives x commands → IsStill commands x.actor.process

-- one of these can move, whatever commands its source gives
pub record SomeMoves {S B H : Type 0} (shows : S → SourceView B) (gives : S → List Numbered → ℕ → Type 0)
    (players : List (Player S H)) : Type 0 where
  pub place : ℕ
  pub player : Player S H
  pub is : slice_get players place ≡ Some player
  pub moves : (commands : List Numbered) → IsAtWork shows gives player commands → CanMove commands player.actor.process

-- what the one sent, the other took
abbrev pub PairAgrees : {H : Type 0} → ℕ → ℕ → Actor H → Actor H → Type 0
PairAgrees i j a b =
    (sent_by a.port j ≡ taken_by b.port i)
    × (length (ring_port.pushed_to a.ring j) ≡ length (ring_port.pulled_from b.ring i))

-- so it is with that of the rank i and each
abbrev pub RowAgrees : {S H : Type 0} → ℕ → List (Player S H) → Type 0
RowAgrees {S} {H} i players =
    (j : ℕ) (x y : Player S H) → slice_get players i ≡ Some x → slice_get players j ≡ Some y →
    PairAgrees i j x.actor y.actor

-- and with each two of these
pub record AllAgree {S H : Type 0} (players : List (Player S H)) : Type 0 where
  pub pairs : (i : ℕ) → RowAgrees i players

-- the players are at rest: none can move, and what each sent to each was taken there
pub record AreAtRest {S B H : Type 0} (shows : S → SourceView B) (gives : S → List Numbered → ℕ → Type 0)
    (players : List (Player S H)) : Type 0 where
  pub still : Each (λ i x. IsStillAt shows gives x) players
  pub agree : AllAgree players

-- what the closed ports carried from each rank to each is what the histories call for
abbrev pub AreCarriedBy : Sizes → (ℕ → List Numbered) → Closed Packet → RingAccount → List Ended → Type 0
AreCarriedBy shape commands c q ends =
    (i j : ℕ) (e : Ended) → j < shape.ranks → slice_get ends i ≡ Some e → IsCarried (commands i) c q i j e

-- how many packets are counted from the rank i to the rank j, 0 where there is no count
abbrev pub count_between : List Packets → ℕ → ℕ → ℕ
count_between packets i j =
    option_map_or (λ p. p.count) (find (λ p. p.from == i && p.to == j) packets) 0

-- The closed ports carried what these ends, counts of packets and account of the cells tell, and no more: they
-- are those of all ranks, theirs is the account, from each rank to each they sent and took as many packets as are
-- counted, and these packets, and the pieces pushed and pulled, are what the histories call for.
pub record HasCarriedBy (shape : Sizes) (commands : ℕ → List Numbered) (ends : List Ended) (packets : List Packets)
    (cells : Account) (c : Closed Packet) (q : RingAccount) : Type 0 where
  pub many : ranks_of c ≡ shape.ranks
  pub account : cells ≡ c.cells
  pub sent :
      (i j : ℕ) → i < shape.ranks → j < shape.ranks →
      length (sent_list c i j) ≡ count_between packets i j
  pub taken :
      (i j : ℕ) → i < shape.ranks → j < shape.ranks →
      length (taken_list c i j) ≡ count_between packets i j
  pub lists : AreCarriedBy shape commands c q ends

-- these are the ends of a run of these commands by rank, and the closed ports carried what they tell
pub record IsWholeOf (shape : Sizes) (commands : ℕ → List Numbered) (ends : List Ended) (packets : List Packets)
    (cells : Account) (c : Closed Packet) (q : RingAccount) : Type 0 where
  pub lawful : IsRunBy shape commands ends packets
  pub carried : HasCarriedBy shape commands ends packets cells c q

-- the record tells a run of these commands by rank, and the closed ports carried what it tells
abbrev pub IsWholeBy : Sizes → (ℕ → List Numbered) → RunRecord → Closed Packet → RingAccount → Type 0
IsWholeBy shape commands run c q = IsWholeOf shape commands (ends_of run.ranks) (packets_of run.pairs) run.cells c q

-- the record tells a run of the script, and the closed ports carried what it tells
abbrev pub IsWhole : Sizes → List Line → RunRecord → Closed Packet → RingAccount → Type 0
IsWhole shape lines = IsWholeBy shape (commands_by_rank lines)

-- the ports know of so many ranks
abbrev pub AreRanked : {S H : Type 0} → ℕ → List (Player S H) → Type 0
AreRanked {S} {H} n players =
    (k : ℕ) (x : Player S H) → slice_get players k ≡ Some x →
    ((knows x.actor.port).ranks ≡ n) × ((ring_port.knows x.actor.ring).ranks ≡ n)

-- new ports of the ranks from k on, in order
abbrev pub NewInOrder : Fabric Packet → Rings → ℕ → List (Port Packet) → List RingPort → Type 0
NewInOrder f r k [] [] = Unit {0}
NewInOrder f r k (p ∷ ps) (q ∷ qs) = IsNew f p k × ring_port.IsNew r q k × NewInOrder f r (k + 1) ps qs
NewInOrder f r k _ _ = ⊥
