-- The places of a rank's commands in a script, and that of the next one.
use Rattle.std.specs.Prelude.{◌≡◌, ℕ, ◌+◌, ◌==◌, true, IfSome, List, length, map, option_map, take, slice_get}
use Rattle.std.specs.Prelude.{None, unwrap_or}
use Rattle.nm_types.specs.declared.scripts.Line.{Line}
use Rattle.nm_types.specs.Commands.{Numbered, commands_of}
use Rattle.nm_process.specs.Lines.{AreLines}
use Rattle.nm_process.specs.Sources.{SourceView}

-- What contracts see of what gives the commands of a rank: the script, the rank and how many there are, the
-- places of its commands, in order, how many of them ran, and the place of the next one, past all lines if
-- there is none.
pub record ScriptedView : Type 0 where
  pub lines : List Line
  pub me : ℕ
  pub ranks : ℕ
  pub own : List ℕ
  pub at : ℕ
  pub next : ℕ

-- the rank's lines stand at these places of the script, in order: the one at place p has number p + 2
abbrev pub ArePlaces : List Line → ℕ → List ℕ → Type 0
ArePlaces lines me own = map (λ p. p + 2) own ≡ map (λ c. c.line) (commands_of me lines)

-- the place of this command, by the places of them all; past all lines where there is none
abbrev pub place_at : List ℕ → List Line → ℕ → ℕ
place_at own lines at = unwrap_or (slice_get own at) (length lines)

-- the line at this place is the rank's, or there is none
abbrev pub IsOwnLine : List Line → ℕ → ℕ → Type 0
IsOwnLine lines me place = IfSome (slice_get lines place) (λ l. (l.rank == me) ≡ true)

-- the next command is the one after so many of the rank's, and all lines are those of a run
pub record IsPlaced (s : ScriptedView) : Type 0 where
  pub lines : AreLines s.ranks s.lines
  pub places : ArePlaces s.lines s.me s.own
  pub counted : length (commands_of s.me (take s.next s.lines)) ≡ s.at
  pub own : IsOwnLine s.lines s.me s.next

-- the command after those that ran, if there is one
abbrev pub shown : ScriptedView → SourceView (Unit {0})
shown s =
    record {
      at = s.at;
      ranks = s.ranks;
      next = option_map (λ c. c.command) (slice_get (commands_of s.me s.lines) s.at);
      told = None;
      begun = tt;
    }

-- it gives the rank's commands in the script
abbrev pub gives_lines : ScriptedView → List Numbered → ℕ → Type 0
gives_lines s commands last = (commands ≡ commands_of s.me s.lines) × (last ≡ s.next + 1)
