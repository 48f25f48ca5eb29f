-- What a sweep over players leaves.
use Rattle.std.specs.Prelude.{◌≡◌, ℕ, Bool, true, false, List}
use Rattle.std.specs.List.{AllZip}
use Rattle.nm_types.specs.Commands.{Numbered}
use Rattle.nm_types.specs.declared.packets.Packet.{Packet}
use Rattle.nm_cells.specs.declared.port.Fabric.{Fabric}
use Rattle.nm_copyring.specs.declared.port.Rings.{Rings}
use Rattle.nm_rank.specs.Ranks.{IsFresh}
use Rattle.nm_process.specs.Sources.{SourceView}
use Rattle.nm_world.specs.declared.players.Player.{Player}
use Rattle.nm_world.specs.Players.{AllPlayOn, did_any}
use Rattle.nm_world.specs.Idle.{AllRest}

-- the process is as it was, if its rank is not worn
abbrev pub StaysUnlessWorn : {S H : Type 0} → Player S H → Player S H → Type 0
StaysUnlessWorn x y = IsFresh x.actor.process.rank → y.actor.process ≡ x.actor.process

-- Each of these players was kept, and `some` tells whether one did something. Where none did, the
-- processes are as they were, and where all made a turn, none could move.
pub record Swept {S B H : Type 0} (n : ℕ) (shows : S → SourceView B) (gives : S → List Numbered → ℕ → Type 0)
    (f : Fabric Packet) (r : Rings) (all some : Bool) (old new : List (Player S H)) : Type 0 where
  pub kept : AllPlayOn shows gives f r old new
  pub moved : some ≡ did_any n old new
  pub still : some ≡ false → AllZip StaysUnlessWorn old new
  pub idle : some ≡ false → all ≡ true → AllRest gives old new

-- What a crew, or several, have told after some sweeps over these players: each was kept, `some` tells
-- whether one did something, and where none did, none could move.
pub record HasSwept {S B H : Type 0} (n : ℕ) (shows : S → SourceView B) (gives : S → List Numbered → ℕ → Type 0)
    (f : Fabric Packet) (r : Rings) (some : Bool) (old new : List (Player S H)) : Type 0 where
  pub kept : AllPlayOn shows gives f r old new
  pub moved : some ≡ did_any n old new
  pub idle : some ≡ false → AllRest gives old new
