-- What a shape that joins two events says: which events of the record stand at its ends.
use Rattle.std.specs.Prelude.{◌≡◌, ℕ, ◌≤◌, ◌<◌, suc, IsTrue, List, [], ◌∷◌, Some, slice_get}
use Rattle.std.specs.List.{Contains}
use Rattle.nm_types.specs.declared.messages.Arrival.{Arrival}
use Rattle.nm_history.specs.declared.events.Event.{Event}
use Rattle.nm_history.specs.declared.events.Happened.TheVariants.{Arrive}
use Rattle.nm_report.specs.declared.accounts.RankAccount.{RankAccount}
use Rattle.nm_diagram.specs.declared.frames.Span.{Span}
use Rattle.nm_diagram.specs.declared.anchors.Anchor.{Anchor}
use Rattle.nm_diagram.specs.declared.anchors.Anchor.TheVariants as anchor
use Rattle.nm_diagram.specs.declared.arrows.Arrow.{Arrow}
use Rattle.nm_diagram.specs.Anchors.{is_anchor}
use Rattle.nm_diagram.specs.Diagrams.{arrows_at}
use Rattle.nm_diagram.specs.Frames.{IsIn}

-- these stamps rise, from this one on
abbrev pub Rise : ℕ → List ℕ → Type 0
Rise low [] = Unit {0}
Rise low (stamp ∷ stamps) = (low ≤ stamp) × Rise (suc stamp) stamps

-- an event of these ones is this anchor, and has this stamp, which is shown
pub record IsAt (span : Span) (events : List Event) (anchor : Anchor) (stamp : ℕ) : Type 0 where
  pub event : Event
  pub among : Contains events event
  pub is_it : IsTrue (is_anchor anchor event.what)
  pub at : event.stamp ≡ stamp
  pub shown : IsIn span stamp

-- an arrow goes from the send of its message, in the history of the rank that it comes from, to the
-- arrival of that message, in the history of the rank that it goes to
pub record IsOfMessage (span : Span) (ranks : List RankAccount) (arrow : Arrow) : Type 0 where
  pub sender : RankAccount
  pub receiver : RankAccount
  pub comes_from : slice_get ranks arrow.from ≡ Some sender
  pub goes_to : slice_get ranks arrow.to ≡ Some receiver
  pub sent : IsAt span sender.history.events (anchor.Send arrow.to arrow.n) arrow.sent
  pub arrived : IsAt span receiver.history.events (anchor.Arrival arrow.from arrow.n) arrow.arrived

-- the arrival of this message, with this stamp, has one arrow, and it comes from an earlier stamp
pub record HasOneArrow (span : Span) (ranks : List RankAccount) (rank stamp : ℕ) (a : Arrival) : Type 0 where
  pub sent : ℕ
  pub before : sent < stamp
  pub one : arrows_at span ranks rank (record { stamp = stamp; what = Arrive a })
      ≡ record { from = a.env.from; sent = sent; to = rank; arrived = stamp; n = a.n; how = a.env.how } ∷ []

-- the message of an arrival at a rank was sent before this stamp
pub record IsSentBefore (first : ℕ) (ranks : List RankAccount) (rank : ℕ) (a : Arrival) : Type 0 where
  pub sender : RankAccount
  pub comes_from : slice_get ranks a.env.from ≡ Some sender
  pub sent : ℕ
  pub at : IsAt (record { first = 0; end = first }) sender.history.events (anchor.Send rank a.n) sent
