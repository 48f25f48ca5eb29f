-- How a player stands: its actor, and what gives it its commands.
use Rattle.std.specs.Prelude.{IfSome, is_some, ◌≡◌, ℕ, ◌+◌, Bool, nat_lt, List, [], ◌∷◌, Some}
use Rattle.std.specs.List.{AllZip, slice_get}
use Rattle.nm_types.specs.Commands.{Numbered}
use Rattle.nm_types.specs.declared.answers.Answer.{Answer}
use Rattle.nm_history.specs.Totals.{answers_given}
use Rattle.nm_types.specs.declared.packets.Packet.{Packet}
use Rattle.nm_cells.specs.declared.port.Fabric.{Fabric}
use Rattle.nm_copyring.specs.declared.port.Rings.{Rings}
use Rattle.nm_process.specs.Sources.{GivesSome, SourceView}
use Rattle.nm_process.specs.Work.{IsWorking}
use Rattle.nm_world.specs.declared.players.Player.{Player}
use Rattle.nm_world.specs.Actors.{ActorInvariant, Grew, Grows, HasPorts, done_by, seat_of}

-- a source that is told answers was told these
abbrev pub WasTold : {B : Type 0} → SourceView B → List Answer → Type 0
WasTold v answers = IfSome v.told (λ told. told ≡ answers)

-- a source of which no command ran, for a run of n ranks
pub record BeginsAt {S B : Type 0} (shows : S → SourceView B) (gives : S → List Numbered → ℕ → Type 0) (n : ℕ) (s : S)
    : Type 0 where
  pub at : (shows s).at ≡ 0
  pub ranks : (shows s).ranks ≡ n
  pub told : WasTold (shows s) []
  pub some : GivesSome (gives s)

-- Its actor has its ports, its source counts the commands that ran and was told the answers of its rank's
-- history, and whatever commands its source goes on to give, its actor stands at them.
pub record PlayerInvariant {S B H : Type 0} (shows : S → SourceView B) (gives : S → List Numbered → ℕ → Type 0)
    (f : Fabric Packet) (r : Rings) (x : Player S H) : Type 0 where
  pub ports : HasPorts f r x.actor
  pub at : (shows x.source).at ≡ x.actor.process.at
  pub ranks : (shows x.source).ranks ≡ x.actor.process.rank.sizes.ranks
  pub told : WasTold (shows x.source) (answers_given x.actor.process.rank.events)
  pub stands : (commands : List Numbered) (last : ℕ) → gives x.source commands last →
      ActorInvariant commands last x.actor

-- A player's source gives these commands, and counts those that ran, and its actor's process is at work on
-- them.
pub record IsAtWork {S B H : Type 0} (shows : S → SourceView B) (gives : S → List Numbered → ℕ → Type 0)
    (x : Player S H)
    (commands : List Numbered) : Type 0 where
  pub last : ℕ
  pub given : gives x.source commands last
  pub at : (shows x.source).at ≡ x.actor.process.at
  pub work : IsWorking x.actor.process.rank.sizes commands (last + 1) x.actor.process

-- it gave these commands before
pub record GaveBefore (gave : List Numbered → ℕ → Type 0) (commands : List Numbered) : Type 0 where
  pub before : ℕ
  pub gives : gave commands before

-- a source may give no other commands than before
abbrev pub GivesLess : {S : Type 0} → (S → List Numbered → ℕ → Type 0) → S → S → Type 0
GivesLess gives s t = (commands : List Numbered) (last : ℕ) → gives t commands last → GaveBefore (gives s) commands

-- A source went on: it may give no other commands than before, was the same at first, is for as many ranks, and
-- is told answers if it was.
pub record GoesOn {S B : Type 0} (shows : S → SourceView B) (gives : S → List Numbered → ℕ → Type 0) (s t : S)
    : Type 0 where
  pub gave : GivesLess gives s t
  pub begun : (shows t).begun ≡ (shows s).begun
  pub ranks : (shows t).ranks ≡ (shows s).ranks
  pub hears : is_some (shows t).told ≡ is_some (shows s).told

-- it is the same player, it stands, and it and its source go on from where they were
pub record PlaysOn {S B H : Type 0} (shows : S → SourceView B) (gives : S → List Numbered → ℕ → Type 0)
    (f : Fabric Packet) (r : Rings) (x y : Player S H) : Type 0 where
  pub stands : PlayerInvariant shows gives f r y
  pub seat : seat_of y.actor ≡ seat_of x.actor
  pub grows : Grows x.actor y.actor
  pub source : GoesOn shows gives x.source y.source

-- so it is with each of a list
abbrev pub AllPlayOn :
    {S B H : Type 0} → (S → SourceView B) → (S → List Numbered → ℕ → Type 0) → Fabric Packet → Rings →
    List (Player S H) → List (Player S H) → Type 0
AllPlayOn shows gives f r = AllZip (PlaysOn shows gives f r)

-- something grew of one of these players
pub record SomeGrew {S H : Type 0} (n : ℕ) (old new : List (Player S H)) : Type 0 where
  pub place : ℕ
  pub before : Player S H
  pub after : Player S H
  pub was : slice_get old place ≡ Some before
  pub is : slice_get new place ≡ Some after
  pub grew : Grew n before.actor after.actor

-- how much these players have done
abbrev pub done_of : {S H : Type 0} → ℕ → List (Player S H) → ℕ
done_of n [] = 0
done_of n (x ∷ players) = done_by n x.actor + done_of n players

-- whether one of them did something between two moments
abbrev pub did_any : {S H : Type 0} → ℕ → List (Player S H) → List (Player S H) → Bool
did_any n old new = nat_lt (done_of n old) (done_of n new)

-- these sources give the commands of the ranks from k on
abbrev pub AreGiven :
    {S : Type 0} → (S → List Numbered → ℕ → Type 0) → (ℕ → List Numbered) → ℕ → List S → Type 0
AreGiven gives commands k [] = Unit {0}
AreGiven gives commands k (s ∷ sources) =
    GaveBefore (gives s) (commands k) × AreGiven gives commands (k + 1) sources
