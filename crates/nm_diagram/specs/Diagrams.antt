-- A space-time diagram as lists: the process lines of the ranks, a mark for each event, and an arrow for
-- each message, after Lamport, 'Time, Clocks, and the Ordering of Events', 1978.
use Rattle.std.specs.Prelude.{ℕ, ◌+◌, if◌then◌else◌, List, [], ◌∷◌, ◌++◌}
use Rattle.std.specs.Prelude.{Bool, false, Option, Some, None, codes, decimal, flat_map, get_or, slice_get}
use Rattle.std.specs.List.{join_with_byte}
use Rattle.nm_types.specs.declared.messages.How.{How}
use Rattle.nm_types.specs.declared.messages.How.TheVariants.{Eager, Ask}
use Rattle.nm_history.specs.declared.events.Event.{Event}
use Rattle.nm_history.specs.declared.events.Happened.{Happened}
use Rattle.nm_history.specs.declared.events.Happened.TheVariants.{Send, Post, Arrive, Whole, Out}
use Rattle.nm_history.specs.declared.events.Happened.TheVariants.{Cancel, Recall, Withdraw}
use Rattle.nm_history.specs.declared.events.Happened.TheVariants.{Undone, Claim, Match, Ran}
use Rattle.nm_report.specs.declared.accounts.RankAccount.{RankAccount}
use Rattle.nm_report.specs.Events.{event_words}
use Rattle.nm_diagram.specs.declared.frames.Span.{Span}
use Rattle.nm_diagram.specs.declared.anchors.Anchor.TheVariants as anchor
use Rattle.nm_diagram.specs.declared.arrows.Arrow.{Arrow}
use Rattle.nm_diagram.specs.declared.signs.Sign.{Sign}
use Rattle.nm_diagram.specs.declared.signs.Sign.TheVariants as sign
use Rattle.nm_diagram.specs.Anchors.{found_by}
use Rattle.nm_diagram.specs.Frames.{is_shown}

-- what each of these ranks has in the picture, in order, of which the first has this number
abbrev pub from_lane : {X : Type 0} → (ℕ → RankAccount → List X) → ℕ → List RankAccount → List X
from_lane has rank [] = []
from_lane has rank (account ∷ accounts) = has rank account ++ from_lane has (rank + 1) accounts

-- the mark of an event: the lane of its rank, its stamp, its sign, and its title
pub record Mark : Type 0 where
  pub lane : ℕ
  pub stamp : ℕ
  pub sign : Sign
  pub title : List ℕ

-- the sign of an event
abbrev pub sign_of : Happened → Sign
sign_of (Send to n tag ctx len Eager line) = sign.Send
sign_of (Send to n tag ctx len Ask line) = sign.Ask
sign_of (Post post line) = sign.Post
sign_of (Arrive a) = sign.Arrive
sign_of (Whole from n) = sign.Whole
sign_of (Out to n) = sign.Out
sign_of (Cancel number done) = sign.Cancel
sign_of (Recall to n) = sign.Recall
sign_of (Withdraw from n done) = sign.Withdraw
sign_of (Undone to n done) = sign.Undone
sign_of (Claim from n line) = sign.Claim
sign_of (Match number from n cap line) = sign.Match
sign_of (Ran line answer) = sign.Ran

-- the title of an event: its rank, its stamp, and its words in the trace
abbrev pub title_of : ℕ → Event → List ℕ
title_of rank event =
    codes "rank " ++ (decimal rank ++ (codes " at " ++ (decimal event.stamp
    ++ (codes ": " ++ join_with_byte 32 (event_words event.what)))))

-- the mark of an event of this rank
abbrev pub mark_of : ℕ → Event → Mark
mark_of rank event =
    record {
      lane = rank;
      stamp = event.stamp;
      sign = sign_of event.what;
      title = title_of rank event;
    }

-- an event that is shown has one mark
abbrev pub marks_at : Span → ℕ → Event → List Mark
marks_at span rank event = if is_shown span event then mark_of rank event ∷ [] else []

-- the marks of a rank
abbrev pub marks_of : Span → ℕ → RankAccount → List Mark
marks_of span rank account = flat_map (marks_at span rank) account.history.events

-- the marks of all ranks
abbrev pub all_marks : Span → List RankAccount → List Mark
all_marks span ranks = from_lane (marks_of span) 0 ranks

-- an arrow, where there is a send
abbrev pub arrow_from : ℕ → ℕ → ℕ → ℕ → How → Option ℕ → List Arrow
arrow_from from to arrived n how None = []
arrow_from from to arrived n how (Some sent) =
    record { from = from; sent = sent; to = to; arrived = arrived; n = n; how = how } ∷ []

-- the stamp at which a rank sent this message
abbrev pub sent_by : Span → ℕ → ℕ → Option RankAccount → Option ℕ
sent_by span rank number sender = found_by span (anchor.Send rank number) sender

-- an arrival has one arrow, from its send
abbrev pub arrow_of : Span → List RankAccount → ℕ → ℕ → Happened → List Arrow
arrow_of span ranks rank stamp (Arrive a) =
    arrow_from a.env.from rank stamp a.n a.env.how
    (sent_by span rank a.n (slice_get ranks a.env.from))
arrow_of span ranks rank stamp _ = []

-- and so has an arrival that is shown
abbrev pub arrows_at : Span → List RankAccount → ℕ → Event → List Arrow
arrows_at span ranks rank event =
    if is_shown span event then arrow_of span ranks rank event.stamp event.what else []

-- the arrows that end at a rank
abbrev pub arrows_of : Span → List RankAccount → ℕ → RankAccount → List Arrow
arrows_of span ranks rank account = flat_map (arrows_at span ranks rank) account.history.events

-- all arrows, by the ranks at which they end
abbrev pub all_arrows : Span → List RankAccount → List Arrow
all_arrows span ranks = from_lane (arrows_of span ranks) 0 ranks

-- the process line of a rank, and where it waits
pub record Lane : Type 0 where
  pub rank : ℕ
  pub waits : Option ℕ

-- a rank has one process line
abbrev pub lane_of : ℕ → RankAccount → List Lane
lane_of rank account = record { rank = rank; waits = account.waits } ∷ []

-- and a rank that is chosen has it
abbrev pub lanes_at : List Bool → ℕ → RankAccount → List Lane
lanes_at chosen rank account = if get_or chosen rank false then lane_of rank account else []

-- the process lines of the chosen ranks
abbrev pub all_lanes : List Bool → List RankAccount → List Lane
all_lanes chosen ranks = from_lane (lanes_at chosen) 0 ranks
