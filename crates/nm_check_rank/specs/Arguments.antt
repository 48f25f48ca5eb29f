-- The arguments of a send or a receive, as a trace has them.
use Rattle.std.specs.Prelude.{◌≡◌, ℕ, MatchOption, Option, Some, List, [], ◌∷◌, slice_get}
use Rattle.nm_types.specs.declared.messages.TagPick.TheVariants as pick
use Rattle.nm_history.specs.declared.events.Happened.{Happened}
use Rattle.nm_history.specs.declared.events.Happened.TheVariants as what
use Rattle.nm_check_rank.specs.Differ.{DifferFirstAt}
use Rattle.nm_check_rank.specs.declared.paired.arguments.Argument.{Argument}
use Rattle.nm_check_rank.specs.declared.paired.arguments.Argument.TheVariants as arg
use Rattle.nm_check_rank.specs.declared.paired.arguments.Mismatch.{Mismatch}
use Rattle.nm_check_rank.specs.declared.paired.arguments.Sort.{Sort}
use Rattle.nm_check_rank.specs.declared.paired.arguments.Sort.TheVariants as sort

-- whether a start is a send, a receive, or a receive of a claimed message
abbrev pub sort_of : Happened → Sort
sort_of (what.Send to n tag ctx len how line) = sort.Send
sort_of (what.Match number from n cap line) = sort.Matched
sort_of w = sort.Receive

-- what else a trace has of it, but for its number and whether it asks
abbrev pub others_of : Happened → List Argument
others_of (what.Send to n tag ctx len how line) =
    arg.To to ∷ arg.Tag (pick.One tag) ∷ arg.Context ctx ∷ arg.Length len ∷ arg.Line line ∷ []
others_of (what.Post p line) =
    arg.From p.from ∷ arg.Tag p.tag ∷ arg.Context p.ctx ∷ arg.Capacity p.cap ∷ arg.Line line ∷ []
others_of (what.Match number from n cap line) =
    arg.Message (record { rank = from; n = n }) ∷ arg.Capacity cap ∷ arg.Line line ∷ []
others_of w = []

-- all of this, in the order of a trace
abbrev pub arguments : Happened → List Argument
arguments w = arg.Sort (sort_of w) ∷ others_of w

-- it is the first argument in which they differ
abbrev pub IsMismatch : List Argument → List Argument → Mismatch → Type 0
IsMismatch called found m =
    (k : ℕ) × DifferFirstAt called found k × (slice_get called k ≡ Some m.called) × (slice_get found k ≡ Some m.found)

-- the first one, or none where they are the same
abbrev pub IsFirstMismatch : List Argument → List Argument → Option Mismatch → Type 0
IsFirstMismatch called found first = MatchOption first (called ≡ found) (IsMismatch called found)
