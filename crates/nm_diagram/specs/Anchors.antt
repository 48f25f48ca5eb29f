-- The events at which the ends of arrows and links stand.
use Rattle.std.specs.Prelude.{ℕ, ◌==◌, ◌&&◌, Bool, false, if◌then◌else◌, List, [], ◌∷◌}
use Rattle.std.specs.Prelude.{Option, Some, None, nat_le, take}
use Rattle.nm_history.specs.declared.events.Event.{Event}
use Rattle.nm_history.specs.declared.events.Happened.{Happened}
use Rattle.nm_history.specs.declared.events.Happened.TheVariants as what
use Rattle.nm_report.specs.declared.accounts.RankAccount.{RankAccount}
use Rattle.nm_diagram.specs.declared.frames.Span.{Span}
use Rattle.nm_diagram.specs.declared.anchors.Anchor.{Anchor}
use Rattle.nm_diagram.specs.declared.anchors.Anchor.TheVariants.{Send, Arrival, Receive, Recall, Withdraw, Undone}
use Rattle.nm_diagram.specs.Frames.{is_shown}

-- an event is an anchor: the send of a message to a rank, the arrival of one from a rank, or a receive,
-- posted or of a claimed message; or the asking for a withdrawal, the withdrawal, or the answer to it
abbrev pub is_anchor : Anchor → Happened → Bool
is_anchor (Send rank number) (what.Send to n tag ctx len how line) = (to == rank) && (n == number)
is_anchor (Arrival rank number) (what.Arrive a) = (a.env.from == rank) && (a.n == number)
is_anchor (Receive number) (what.Post post line) = post.number == number
is_anchor (Receive number) (what.Match m from n cap line) = m == number
is_anchor (Recall rank number) (what.Recall to n) = (to == rank) && (n == number)
is_anchor (Withdraw rank number) (what.Withdraw from n done) = (from == rank) && (n == number)
is_anchor (Undone rank number) (what.Undone to n done) = (to == rank) && (n == number)
is_anchor _ _ = false

-- the stamp of the first event that is shown and is this anchor
abbrev pub first_stamp : Span → Anchor → List Event → Option ℕ
first_stamp span anchor [] = None
first_stamp span anchor (event ∷ events) =
    if is_shown span event && is_anchor anchor event.what then Some event.stamp
    else first_stamp span anchor events

-- the events from the first one on that has this stamp or a later one
abbrev pub since : ℕ → List Event → List Event
since first [] = []
since first (event ∷ events) = if nat_le first event.stamp then event ∷ events else since first events

-- the stamp at which this happened at a rank: among 20,000 events from the first one on that may be shown
abbrev pub found_by : Span → Anchor → Option RankAccount → Option ℕ
found_by span anchor None = None
found_by span anchor (Some account) =
    first_stamp span anchor (take 20000 (since span.first account.history.events))
