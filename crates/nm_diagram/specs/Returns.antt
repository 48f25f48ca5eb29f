-- The way of a withdrawal: from where it is asked for to where it is done or late, and back with the answer.
-- MPI 3.1, 3.8.4.
use Rattle.std.specs.Prelude.{◌≡◌, ℕ, ◌⊎◌, if◌then◌else◌, List, [], ◌∷◌, Option, Some, None, flat_map, slice_get}
use Rattle.nm_history.specs.declared.events.Event.{Event}
use Rattle.nm_history.specs.declared.events.Happened.{Happened}
use Rattle.nm_history.specs.declared.events.Happened.TheVariants.{Withdraw, Undone}
use Rattle.nm_report.specs.declared.accounts.RankAccount.{RankAccount}
use Rattle.nm_diagram.specs.declared.frames.Span.{Span}
use Rattle.nm_diagram.specs.declared.anchors.Anchor.TheVariants as anchor
use Rattle.nm_diagram.specs.declared.returns.Return.{Return}
use Rattle.nm_diagram.specs.Anchors.{found_by}
use Rattle.nm_diagram.specs.Diagrams.{from_lane}
use Rattle.nm_diagram.specs.Frames.{is_shown}
use Rattle.nm_diagram.specs.Joined.{IsAt}

-- a way, where its start is shown
abbrev pub return_from : ℕ → ℕ → ℕ → ℕ → Option ℕ → List Return
return_from from to came n None = []
return_from from to came n (Some left) = record { from = from; left = left; to = to; came = came; n = n } ∷ []

-- a withdrawal has one way, from its asking, and so has its answer, from the withdrawal
abbrev pub return_of : Span → List RankAccount → ℕ → ℕ → Happened → List Return
return_of span ranks rank stamp (Withdraw from n done) =
    return_from from rank stamp n (found_by span (anchor.Recall rank n) (slice_get ranks from))
return_of span ranks rank stamp (Undone to n done) =
    return_from to rank stamp n (found_by span (anchor.Withdraw rank n) (slice_get ranks to))
return_of span ranks rank stamp _ = []

-- and so has one that is shown
abbrev pub returns_at : Span → List RankAccount → ℕ → Event → List Return
returns_at span ranks rank event =
    if is_shown span event then return_of span ranks rank event.stamp event.what else []

-- the ways that end at a rank
abbrev pub returns_of : Span → List RankAccount → ℕ → RankAccount → List Return
returns_of span ranks rank account = flat_map (returns_at span ranks rank) account.history.events

-- all ways, by the ranks at which they end
abbrev pub all_returns : Span → List RankAccount → List Return
all_returns span ranks = from_lane (returns_of span ranks) 0 ranks

-- a way goes from the asking for a withdrawal to the withdrawal, or from there to the answer
abbrev pub Goes : Span → RankAccount → RankAccount → Return → Type 0
Goes span start goal way =
    (IsAt span start.history.events (anchor.Recall way.to way.n) way.left
    × IsAt span goal.history.events (anchor.Withdraw way.from way.n) way.came)
    ⊎ (IsAt span start.history.events (anchor.Withdraw way.to way.n) way.left
    × IsAt span goal.history.events (anchor.Undone way.from way.n) way.came)

-- the same, at the ranks that the way joins
pub record IsOfWithdrawal (span : Span) (ranks : List RankAccount) (way : Return) : Type 0 where
  pub start : RankAccount
  pub goal : RankAccount
  pub comes_from : slice_get ranks way.from ≡ Some start
  pub goes_to : slice_get ranks way.to ≡ Some goal
  pub goes : Goes span start goal way
