-- The sends and receives of a history, each with the number of commands that ran before it; and those
-- that plain commands call for.
use Rattle.std.specs.Prelude.{ℕ, if◌then◌else◌, List, [], ◌∷◌, ◌++◌, length, map}
use Rattle.nm_types.specs.Commands.{Numbered}
use Rattle.nm_history.specs.declared.events.Event.{Event}
use Rattle.nm_history.specs.declared.events.Happened.{Happened}
use Rattle.nm_history.specs.AtEach.{in_turn}
use Rattle.nm_history.specs.RankRun.{is_start, ran_lines, start_of, without_number}
use Rattle.nm_sure.specs.Names.{is_taken}

-- a start with the place of its command
pub record Placed : Type 0 where
  pub place : ℕ
  pub what : Happened

-- a start at this place, with the number of its send or receive taken out
abbrev pub at_place : ℕ → Happened → Placed
at_place place what = record { place = place; what = without_number what }

-- the start of an event
abbrev pub start_entry : List Event → Happened → List Placed
start_entry before what = if is_start what then at_place (length (ran_lines before)) what ∷ [] else []

-- the starts of a history
abbrev pub placed : List Event → List Placed
placed h = in_turn (λ before e. start_entry before e.what) h

-- the start that a command calls for, behind those before it, if it is taken
abbrev pub placed_at : ℕ → List Numbered → List Event → List Numbered → Numbered → List Placed
placed_at eager commands h before c =
    if is_taken before c.command
    then map (at_place (length before)) (start_of eager commands h c.line c.command) else []

-- the starts that commands call for, behind those before them
abbrev pub placed_from : ℕ → List Numbered → List Numbered → List Numbered → List Placed
placed_from eager commands before [] = []
placed_from eager commands before (c ∷ more) =
    placed_at eager commands [] before c ++ placed_from eager commands (before ++ c ∷ []) more

-- the starts of the first commands
abbrev pub placed_of : ℕ → List Numbered → List Numbered → List Placed
placed_of eager commands done = placed_from eager commands [] done
