-- Which starts of a rank are taken, by its commands alone. In a plain script each answer to a wait
-- is a result, so a name is free again once a wait for it ran.
use Rattle.std.specs.Prelude.{ℕ, ◌==◌, Bool, false, ◌&&◌, is_none, Option, Some, None}
use Rattle.std.specs.Prelude.{if◌then◌else◌, List, [], ◌∷◌, ◌++◌, fold}
use Rattle.std.specs.Option.{option_map_or}
use Rattle.nm_types.specs.declared.scripts.Command.{Command}
use Rattle.nm_types.specs.declared.scripts.Command.TheVariants.{Send, Recv, Wait}
use Rattle.nm_types.specs.Commands.{Numbered}

-- the line of the start that a name stands for, after the command of a line more
abbrev pub holder_by : ℕ → Option ℕ → ℕ → Command → Option ℕ
holder_by q held line (Send to q' tag ctx sync body) =
    if q' == q && is_none held then Some line else held
holder_by q held line (Recv q' from tag ctx cap) =
    if q' == q && is_none held then Some line else held
holder_by q held line (Wait q') = if q' == q then None else held
holder_by q held line _ = held

-- that line after these commands of a rank
abbrev pub holder : List Numbered → ℕ → Option ℕ
holder commands q = fold (λ held c. holder_by q held c.line c.command) None commands

-- the name that a start gives its request
abbrev pub started_name : Command → Option ℕ
started_name (Send to q tag ctx sync body) = Some q
started_name (Recv q from tag ctx cap) = Some q
started_name _ = None

-- a start is taken after these commands: its name stands for none
abbrev pub is_taken : List Numbered → Command → Bool
is_taken before c = option_map_or (λ q. is_none (holder before q)) (started_name c) false

-- the starts that are taken among these commands, behind those before them
abbrev pub started_after : List Numbered → List Numbered → List Numbered
started_after before [] = []
started_after before (c ∷ commands) =
    if is_taken before c.command then c ∷ started_after (before ++ c ∷ []) commands
    else started_after (before ++ c ∷ []) commands

-- the starts of a rank that are taken, in order
abbrev pub started : List Numbered → List Numbered
started commands = started_after [] commands
