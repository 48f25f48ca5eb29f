-- What the code of the plain run has of a script, and how far it got.
use Rattle.std.specs.Prelude.{◌≡◌, ℕ, ◌+◌, ◌==◌, ◌<◌, ◌≤◌, Bool, true, false, not, Option, Some, None}
use Rattle.std.specs.Prelude.{is_some, List, length, map, slice_get}
use Rattle.std.specs.List.{list_any, range_with_len}
use Rattle.std.specs.declared.vec.Vec.{Vec}
use Rattle.nm_types.specs.declared.scripts.Command.{Command}
use Rattle.nm_types.specs.declared.scripts.Command.TheVariants.{Send}
use Rattle.nm_types.specs.declared.scripts.Line.{Line}
use Rattle.nm_types.specs.Bodies.{body_len}
use Rattle.nm_types.specs.Limits.{IsScript}
use Rattle.nm_history.specs.RankRun.{how_of}
use Rattle.nm_history.specs.Sends.{is_ask}
use Rattle.nm_sure.specs.Held.{held_at, own_lines}
use Rattle.nm_sure.specs.Names.{started_name}
use Rattle.nm_sure.specs.Plain.{ran_of}
use Rattle.nm_sure.specs.Ways.{partner_at}

-- the number of a line of the script
abbrev pub IsLine : List Line → ℕ → Type 0
IsLine lines number = (2 ≤ number) × (number < length lines + 2)

-- a script with the lines of each rank, and by line what its name stands for and its partner
pub record IsPlan {A : Type 0} (lines : List Line) (ranks : List (Vec ℕ A)) (held partners : List (Option ℕ)) : Type 0
  where
    pub limits : IsScript (length ranks) lines
    pub own : map (λ own. own.items) ranks ≡ map (own_lines lines) (range_with_len 0 (length ranks))
    pub names : held ≡ map (held_at lines) (range_with_len 0 (length lines))
    pub pairs : partners ≡ map (partner_at lines) (range_with_len 0 (length lines))

-- the command of the line at a place ran
abbrev pub is_run : List Line → List ℕ → ℕ → Line → Bool
is_run lines at k line = list_any (λ c. c.line == k + 2) (ran_of lines at line.rank)

-- whether it ran, by line
pub record AreRan (lines : List Line) (at : List ℕ) (ran : List Bool) : Type 0 where
  pub count : length ran ≡ length lines
  pub each : (k : ℕ) (line : Line) → slice_get lines k ≡ Some line → slice_get ran k ≡ Some (is_run lines at k line)

-- the number of a line that is a start of a rank and is taken
pub record IsStart (lines : List Line) (rank start : ℕ) : Type 0 where
  pub place : ℕ
  pub line : Line
  pub is : start ≡ place + 2
  pub here : slice_get lines place ≡ Some line
  pub own : line.rank ≡ rank
  pub starts : is_some (started_name line.command) ≡ true
  pub free : held_at lines place ≡ None

-- a send that leaves at once
abbrev pub is_eager : ℕ → Command → Bool
is_eager eager (Send to q tag ctx sync body) = not (is_ask (how_of eager sync (body_len body)))
is_eager eager _ = false
