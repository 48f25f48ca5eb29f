-- Why an actor moved nothing.
use Rattle.std.specs.Prelude.{◌≡◌, ◌⊎◌, ℕ, ◌<◌, ◌≤◌, Bool, false, IfSome, List, length, slice_index}
use Rattle.std.specs.List.{AllZip, slice_get}
use Rattle.nm_types.specs.Commands.{Numbered}
use Rattle.nm_history.specs.Pieces.{due_pieces}
use Rattle.nm_sending.specs.Letters.{Letter}
use Rattle.nm_rndv.specs.Offers.{next_offered}
use Rattle.nm_receiving.specs.Receipts.{drawn_from}
use Rattle.nm_rank.specs.Ranks.{IsFresh, RankView}
use Rattle.nm_chain.specs.Plays.{missed_of}
use Rattle.nm_chain.specs.OwnQueues.{OwnQueue, receive_queue, free_queue}
use Rattle.nm_cells.specs.declared.port.Port.{Port}
use Rattle.nm_cells.specs.Ports.{knows}
use Rattle.nm_copyring.specs.Ports.{empty_from, full_to}
use Rattle.nm_process.specs.Steps.{goes_on}
use Rattle.nm_world.specs.declared.actors.Actor.{Actor}
use Rattle.nm_world.specs.declared.players.Player.{Player}
use Rattle.nm_world.specs.Actors.{Continues, Environment, did}
use Rattle.nm_types.specs.declared.packets.Packet.{Packet}

-- a count rose, or stands at the last number of 64 bits
abbrev pub Rose : ℕ → ℕ → Type 0
Rose x y = (x < y) ⊎ (18446744073709551615 ≤ y)

-- an own queue of the port had a miss: it was empty, or a link of it was missing
abbrev pub QueueMissed : OwnQueue → Port Packet → Port Packet → Type 0
QueueMissed b p q =
    Rose (missed_of b (knows p)).head_empty (missed_of b (knows q)).head_empty
    ⊎ Rose (missed_of b (knows p)).link_missing (missed_of b (knows q)).link_missing

-- `poll` gave none: of n ranks each one's next box was found without the awaited number, and the
-- receive queue had a miss.
pub record GaveNone (n : ℕ) (p q : Port Packet) : Type 0 where
  pub boxes :
      (i : ℕ) → i < n → Rose (slice_index (knows p).box_miss i) (slice_index (knows q).box_miss i)
  pub queue : QueueMissed receive_queue p q

-- `send` handed a letter back: it fits no box, or the next one was found full, and the free queue had
-- a miss.
pub record NotSent (p q : Port Packet) (l : Letter) : Type 0 where
  pub box :
      (64 < length l.packet.payload)
      ⊎ Rose (slice_index (knows p).box_full l.to) (slice_index (knows q).box_full l.to)
  pub queue : QueueMissed free_queue p q

-- `send` handed the first letter back, if there is one
abbrev pub FirstNotSent : {H : Type 0} → Actor H → Actor H → Type 0
FirstNotSent a b = IfSome (slice_get a.process.rank.sending.outbox.letters 0) (NotSent a.port b.port)

-- the next piece, if there is one, was not pushed: its place was found full
abbrev pub NextNotPushed : {H : Type 0} → Actor H → Actor H → Type 0
NextNotPushed a b =
    IfSome (next_offered a.process.rank.sending.offers) (λ o. full_to a.ring o.to < full_to b.ring o.to)

-- a piece of the rank i is due
abbrev pub IsDue : RankView → ℕ → Type 0
IsDue v i = drawn_from v.receiving i < length (due_pieces v.events i)

-- `pull` gave none of the rank i, if a piece of it is due: its place was found empty
abbrev pub NoPiece : {H : Type 0} → Actor H → Actor H → ℕ → Type 0
NoPiece a b i = IsDue a.process.rank i → empty_from a.ring i < empty_from b.ring i

-- Nothing moved, since nothing could: the process is as it was, `poll` gave none, and what was to be sent,
-- pushed and pulled was not.
pub record Idle {H : Type 0} (a b : Actor H) : Type 0 where
  pub process : b.process ≡ a.process
  pub polled : GaveNone a.process.rank.sizes.ranks a.port b.port
  pub letter : FirstNotSent a b
  pub piece : NextNotPushed a b
  pub pieces : (i : ℕ) → i < a.process.rank.sizes.ranks → NoPiece a b i

-- whatever commands its source goes on to give, none that is left can go on
abbrev pub IsStuck : {S H : Type 0} → (S → List Numbered → ℕ → Type 0) → Player S H → Type 0
IsStuck gives x =
    (commands : List Numbered) (last : ℕ) → gives x.source commands last →
    goes_on commands x.actor.process ≡ false

-- nothing moved, since nothing could, and no command that is left can go on
pub record Rests {S H : Type 0} (gives : S → List Numbered → ℕ → Type 0) (x y : Player S H) : Type 0 where
  pub idle : Idle x.actor y.actor
  pub stuck : IsStuck gives x

-- so it is with each of a list whose rank is not worn
abbrev pub AllRest : {S H : Type 0} → (S → List Numbered → ℕ → Type 0) → List (Player S H) → List (Player S H) → Type 0
AllRest gives = AllZip (λ x y. IsFresh x.actor.process.rank → Rests gives x y)

-- One step, or several of a kind, of which none is a command: where it moved nothing the process is as
-- it was, and a worn rank makes none.
pub record Stepped {H : Type 0} (moved : Bool) (a b : Actor H) : Type 0 where
  pub at : b.process.at ≡ a.process.at
  pub still : moved ≡ false → b.process ≡ a.process
  pub worn : ¬ IsFresh a.process.rank → b ≡ a

-- One step, or several of a kind, of which none is a command: the actor stands, goes on from where it
-- was, and `some` tells whether it did something.
pub record Moves {H : Type 0} (here : Environment) (some : Bool) (a b : Actor H) : Type 0 where
  pub kept : Continues here.fabric here.rings a b
  pub moved : some ≡ did here.fabric.ranks a b
  pub stepped : Stepped some a b
