-- The places of ranks at rest.
use Rattle.std.specs.Prelude.{◌≡◌, ℕ, ◌<◌, true, false, Some, None, List, length}
use Rattle.std.specs.List.{slice_get}
use Rattle.nm_types.specs.declared.scripts.Command.{Command}
use Rattle.nm_types.specs.declared.scripts.Command.TheVariants as command
use Rattle.nm_types.specs.declared.scripts.Line.{Line}
use Rattle.nm_types.specs.Commands.{Numbered, commands_of}
use Rattle.nm_types.specs.Sizes.{Sizes}
use Rattle.nm_history.specs.Completion.{Request}
use Rattle.nm_history.specs.Quiescence.{Ended, Packets}
use Rattle.nm_history.specs.Run.{IsRunOf}
use Rattle.nm_outcomes.specs.Logs.{Step}
use Rattle.nm_outcomes.specs.Moves.{found_in, is_free_in, may_show, request_now}
use Rattle.nm_outcomes.specs.Paths.{AreCommands, IsPathOf, first_place, moved_by}
use Rattle.nm_outcomes.specs.Places.{RankPoint}

-- a command has no answer: a wait of a request that can't end by now, or an await that finds nothing
abbrev pub IsHeldUp : (ℕ → RankPoint) → ℕ → Command → Type 0
IsHeldUp w i (command.Wait q) =
    (request : Request) × (request_now (w i) q ≡ Some request) × (may_show w i request ≡ None)
IsHeldUp w i (command.Await from tag ctx) = found_in (w i) from tag ctx ≡ None
IsHeldUp w i _ = ⊥

-- No move is left: nothing is under way, no message that was recalled is free, and each rank is at its
-- end, or its next command has no answer.
pub record AreAtRest (shape : Sizes) (lines : List Line) (w : ℕ → RankPoint) : Type 0 where
  pub came : (i j : ℕ) → i < shape.ranks → j < shape.ranks → (w j).came i ≡ length ((w i).sent j)
  pub recalls :
      (i j n : ℕ) → i < shape.ranks → j < shape.ranks → (w i).recalled j n ≡ true →
      is_free_in (w j) i n ≡ false
  pub waits :
      (i : ℕ) → i < shape.ranks → (c : Numbered) →
      slice_get (commands_of i lines) (w i).done ≡ Some c → IsHeldUp w i c.command

-- each run of a script is a path of moves to places at rest
abbrev pub RunsComeToRest : Type 0
RunsComeToRest =
    (shape : Sizes) (lines : List Line) (ranks : List Ended) (packets : List Packets) →
    AreCommands shape.ranks lines → IsRunOf shape lines ranks packets →
    (log : List Step) × IsPathOf shape lines ranks log
    × AreAtRest shape lines (moved_by lines (λ i. first_place) log)
