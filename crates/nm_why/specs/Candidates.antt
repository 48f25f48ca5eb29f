-- All single changes of a script that are tried.
use Rattle.std.specs.Prelude.{◌≡◌, ◌≢◌, ℕ, ◌<◌, Bool, true, false, Option, Some, None, List}
use Rattle.std.specs.List.{slice_get}
use Rattle.nm_types.specs.declared.messages.Peer.TheVariants as peer
use Rattle.nm_types.specs.declared.messages.TagPick.{TagPick}
use Rattle.nm_types.specs.declared.messages.TagPick.TheVariants as pick
use Rattle.nm_types.specs.declared.scripts.Command.{Command}
use Rattle.nm_types.specs.declared.scripts.Command.TheVariants as command
use Rattle.nm_types.specs.declared.scripts.Line.{Line}
use Rattle.nm_why.specs.declared.changes.Change.{Change}
use Rattle.nm_why.specs.declared.changes.Change.TheVariants.{Edited, Swapped, LeftOut}
use Rattle.nm_why.specs.declared.changes.Edit.{Edit}
use Rattle.nm_why.specs.declared.changes.Edit.TheVariants.{Source, Tag, Context, Synchronous}
use Rattle.nm_why.specs.Changes.{edited}

-- the tag that a command names
abbrev pub tag_of : Command → Option TagPick
tag_of (command.Send to q tag ctx sync body) = Some (pick.One tag)
tag_of (command.Recv q from tag ctx cap) = Some tag
tag_of (command.Probe from tag ctx) = Some tag
tag_of (command.Await from tag ctx) = Some tag
tag_of (command.Mprobe m from tag ctx) = Some tag
tag_of _ = None

-- the context
abbrev pub context_of : Command → Option ℕ
context_of (command.Send to q tag ctx sync body) = Some ctx
context_of (command.Recv q from tag ctx cap) = Some ctx
context_of (command.Probe from tag ctx) = Some ctx
context_of (command.Await from tag ctx) = Some ctx
context_of (command.Mprobe m from tag ctx) = Some ctx
context_of _ = None

-- a line of the script has such a command
abbrev pub IsNamed : {X : Type 0} → (Command → Option X) → List Line → X → Type 0
IsNamed {X} of lines x = (k : ℕ) × (line : Line) × (slice_get lines k ≡ Some line) × (of line.command ≡ Some x)

-- any source or a rank; any tag, or one that a line names; a context that a line names; a send that is synchronous
abbrev pub IsEdit : ℕ → List Line → Edit → Type 0
IsEdit ranks lines (Source peer.Any) = Unit {0}
IsEdit ranks lines (Source (peer.One rank)) = rank < ranks
IsEdit ranks lines (Tag pick.Any) = Unit {0}
IsEdit ranks lines (Tag (pick.One tag)) = IsNamed tag_of lines (pick.One tag)
IsEdit ranks lines (Context ctx) = IsNamed context_of lines ctx
IsEdit ranks lines Synchronous = Unit {0}

-- a command that may be left out: it starts an operation, probes, or cancels one, and is no wait and no test
abbrev pub may_go : Command → Bool
may_go (command.Wait q) = false
may_go (command.Test q) = false
may_go (command.Await from tag ctx) = false
may_go _ = true

-- the next command of a rank after a place is at this one
pub record AreNext (lines : List Line) (rank place other : ℕ) : Type 0 where
  pub line : Line
  pub there : slice_get lines other ≡ Some line
  pub own : line.rank ≡ rank
  pub later : place < other
  pub between : (k : ℕ) (l : Line) → place < k → k < other → slice_get lines k ≡ Some l → l.rank ≢ rank

-- two commands of a rank, of which one comes right after the other
abbrev pub AreNeighbours : List Line → ℕ → ℕ → Type 0
AreNeighbours lines place other =
    (line : Line) × (slice_get lines place ≡ Some line) × AreNext lines line.rank place other

-- a command of this line is another one after the edit
pub record IsOther (lines : List Line) (place : ℕ) (edit : Edit) : Type 0 where
  pub line : Line
  pub command : Command
  pub here : slice_get lines place ≡ Some line
  pub edited_is : edited line.command edit ≡ Some command
  pub other : command ≢ line.command

-- such a single change
abbrev pub IsSingle : ℕ → List Line → Change → Type 0
IsSingle ranks lines (Edited place edit) = IsEdit ranks lines edit × IsOther lines place edit
IsSingle ranks lines (Swapped place other) = AreNeighbours lines place other
IsSingle ranks lines (LeftOut place) =
    (line : Line) × (slice_get lines place ≡ Some line) × (may_go line.command ≡ true)

-- the place of the line that a change is of, or of the first of two
abbrev pub place_of : Change → ℕ
place_of (Edited place edit) = place
place_of (Swapped place other) = place
place_of (LeftOut place) = place
