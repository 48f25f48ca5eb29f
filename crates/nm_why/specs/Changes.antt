-- Single changes of a script.
use Rattle.std.specs.Prelude.{ℕ, ◌&&◌, Bool, true, nat_lt, if◌then◌else◌, Option, Some, None, List, length}
use Rattle.std.specs.Prelude.{option_and_then, option_map, remove, slice_set}
use Rattle.std.specs.List.{range_with_len, slice_get}
use Rattle.nm_types.specs.declared.messages.Peer.{Peer}
use Rattle.nm_types.specs.declared.messages.TagPick.{TagPick}
use Rattle.nm_types.specs.declared.messages.TagPick.TheVariants as pick
use Rattle.nm_types.specs.declared.scripts.Command.{Command}
use Rattle.nm_types.specs.declared.scripts.Command.TheVariants as command
use Rattle.nm_types.specs.declared.scripts.Line.{Line}
use Rattle.nm_types.specs.Commands.{rank_line}
use Rattle.nm_why.specs.declared.changes.Change.{Change}
use Rattle.nm_why.specs.declared.changes.Change.TheVariants.{Edited, Swapped, LeftOut}
use Rattle.nm_types.specs.declared.scripts.Body.{Body}
use Rattle.nm_why.specs.declared.changes.Edit.{Edit}
use Rattle.nm_why.specs.declared.changes.Edit.TheVariants.{Source, Tag, Context, Synchronous}
use Rattle.nm_why.specs.declared.changes.Selection.{Selection}
use Rattle.nm_why.specs.Parts.{lines_at}

-- what a receive or a probe selects after an edit: another source, tag or context (MPI 3.1, 3.2.3 and 3.2.4)
abbrev pub selected : Peer → TagPick → ℕ → Edit → Option Selection
selected from tag ctx (Source peer) = Some (record { from = peer; tag = tag; ctx = ctx })
selected from tag ctx (Tag other) = Some (record { from = from; tag = other; ctx = ctx })
selected from tag ctx (Context other) = Some (record { from = from; tag = tag; ctx = other })
selected from tag ctx Synchronous = None

-- a send after an edit: another tag or context, or a standard send as a synchronous one (3.4)
abbrev pub edited_send : ℕ → ℕ → ℕ → ℕ → Bool → Body → Edit → Option Command
edited_send to q tag ctx sync body (Tag (pick.One other)) = Some (command.Send to q other ctx sync body)
edited_send to q tag ctx sync body (Context other) = Some (command.Send to q tag other sync body)
edited_send to q tag ctx sync body Synchronous = if sync then None else Some (command.Send to q tag ctx true body)
edited_send to q tag ctx sync body _ = None

-- a command after an edit, if it has what is edited
abbrev pub edited : Command → Edit → Option Command
edited (command.Send to q tag ctx sync body) edit = edited_send to q tag ctx sync body edit
edited (command.Recv q from tag ctx cap) edit =
    option_map (λ s. command.Recv q s.from s.tag s.ctx cap) (selected from tag ctx edit)
edited (command.Probe from tag ctx) edit =
    option_map (λ s. command.Probe s.from s.tag s.ctx) (selected from tag ctx edit)
edited (command.Await from tag ctx) edit =
    option_map (λ s. command.Await s.from s.tag s.ctx) (selected from tag ctx edit)
edited (command.Mprobe m from tag ctx) edit =
    option_map (λ s. command.Mprobe m s.from s.tag s.ctx) (selected from tag ctx edit)
edited _ edit = None

-- the places of a script, with two exchanged
abbrev pub swapped_places : ℕ → ℕ → ℕ → List ℕ
swapped_places count j k =
    if nat_lt j count && nat_lt k count then slice_set (slice_set (range_with_len 0 count) j k) k j
    else range_with_len 0 count

-- the script after a change, if it has such a line
abbrev pub changed : List Line → Change → Option (List Line)
changed lines (Edited place edit) =
    option_and_then
    (λ line. option_map (λ c. slice_set lines place (rank_line line.rank c)) (edited line.command edit))
    (slice_get lines place)
changed lines (Swapped place other) = Some (lines_at lines (swapped_places (length lines) place other))
changed lines (LeftOut place) = Some (lines_at lines (remove (range_with_len 0 (length lines)) place))
