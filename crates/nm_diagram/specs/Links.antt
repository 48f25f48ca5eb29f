-- A link for each receive that took a message: the matched pairs of a rank's history, drawn in its lane.
use Rattle.std.specs.Prelude.{ℕ, List, [], ◌∷◌, Option, Some, None, flat_map, take}
use Rattle.nm_history.specs.declared.events.Event.{Event}
use Rattle.nm_history.specs.declared.plain.Pair.{Pair}
use Rattle.nm_history.specs.Matching.{matched_pairs}
use Rattle.nm_report.specs.declared.accounts.RankAccount.{RankAccount}
use Rattle.nm_diagram.specs.declared.frames.Span.{Span}
use Rattle.nm_diagram.specs.declared.anchors.Anchor.TheVariants.{Arrival, Receive}
use Rattle.nm_diagram.specs.declared.links.Link.{Link}
use Rattle.nm_diagram.specs.Anchors.{first_stamp}
use Rattle.nm_diagram.specs.Diagrams.{from_lane}

-- a link, where the receive and the arrival are shown
abbrev pub link_from : ℕ → Pair → Option ℕ → Option ℕ → List Link
link_from rank pair None arrived = []
link_from rank pair (Some received) None = []
link_from rank pair (Some received) (Some arrived) =
    record {
      lane = rank;
      received = received;
      arrived = arrived;
      number = pair.number;
      from = pair.arrival.env.from;
      n = pair.arrival.n;
    } ∷ []

-- a pair has one link, from its receive to the arrival of its message
abbrev pub link_of : Span → ℕ → List Event → Pair → List Link
link_of span rank events pair =
    link_from rank pair (first_stamp span (Receive pair.number) events)
    (first_stamp span (Arrival pair.arrival.env.from pair.arrival.n) events)

-- the links of these events: those of their matched pairs
abbrev pub links_among : Span → ℕ → List Event → List Link
links_among span rank events = flat_map (link_of span rank events) (matched_pairs events)

-- the links of a rank: of its first 4,096 events
abbrev pub links_of : Span → ℕ → RankAccount → List Link
links_of span rank account = links_among span rank (take 4096 account.history.events)

-- the links of all ranks
abbrev pub all_links : Span → List RankAccount → List Link
all_links span ranks = from_lane (links_of span) 0 ranks
