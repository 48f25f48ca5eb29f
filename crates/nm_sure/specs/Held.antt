-- What the name of each command stands for.
use Rattle.std.specs.Prelude.{ℕ, ◌==◌, ◌&&◌, Bool, is_none, if◌then◌else◌, Option, Some, None}
use Rattle.std.specs.Prelude.{option_and_then, List, map, slice_get, take}
use Rattle.std.specs.HashMap.{HashMap, get}
use Rattle.nm_types.specs.declared.scripts.Command.{Command}
use Rattle.nm_types.specs.declared.scripts.Command.TheVariants.{Send, Recv, Wait}
use Rattle.nm_types.specs.declared.scripts.Line.{Line}
use Rattle.nm_types.specs.Commands.{Numbered, commands_of}
use Rattle.nm_sure.specs.declared.names.Name.{Name}
use Rattle.nm_sure.specs.Names.{holder, holder_by}

-- two names of ranks are the same
abbrev pub same_name : Name → Name → Bool
same_name a b = a.rank == b.rank && a.q == b.q

-- what a rank's name stands for in a map
abbrev pub held_in : {S : Type 0} → HashMap Name ℕ S → ℕ → ℕ → Option ℕ
held_in names rank q = get same_name names (record { rank = rank; q = q })

-- the name of a plain command
abbrev pub name_of : Command → Option ℕ
name_of (Send to q tag ctx sync body) = Some q
name_of (Recv q from tag ctx cap) = Some q
name_of (Wait q) = Some q
name_of _ = None

-- what a name stands for after a start under another, or the same, name
abbrev pub held_after : Name → ℕ → Option ℕ → Name → Option ℕ
held_after name number held n = if same_name name n && is_none held then Some number else held

-- what a name stands for after a line
abbrev pub name_by : Name → Option ℕ → ℕ → Line → Option ℕ
name_by n held number line =
    if line.rank == n.rank then holder_by n.q held number line.command else held

-- the commands of a rank before the line at a place
abbrev pub before : List Line → ℕ → ℕ → List Numbered
before lines k rank = commands_of rank (take k lines)

-- the lines of a rank's commands
abbrev pub own_lines : List Line → ℕ → List ℕ
own_lines lines rank = map (λ (c : Numbered). c.line) (commands_of rank lines)

-- what the name of the line at a place stands for
abbrev pub held_for : List Line → ℕ → Line → Option ℕ
held_for lines k line =
    option_and_then (holder (before lines k line.rank)) (name_of line.command)

-- what the name of the script's line at a place stands for
abbrev pub held_at : List Line → ℕ → Option ℕ
held_at lines k = option_and_then (held_for lines k) (slice_get lines k)
