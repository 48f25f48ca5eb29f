-- The ranks of a run: where each stands, what left it, and what each took of the others.
use Rattle.std.specs.Prelude.{◌≡◌, ℕ, ◌<◌, Option, None, IfSome, List, [], length, map}
use Rattle.std.specs.List.{slice_get}
use Rattle.nm_types.specs.Commands.{Numbered}
use Rattle.nm_types.specs.Sizes.{Sizes}
use Rattle.nm_history.specs.Quiescence.{Ended}
use Rattle.nm_history.specs.RankRun.{IsRankRun}
use Rattle.nm_history.specs.Sends.{sent_body}
use Rattle.nm_history.specs.Clearance.{pushed_out, to_push}
use Rattle.nm_history.specs.Continues.{WORN_STAMP}
use Rattle.nm_history.specs.Rest.{EagerHaveLeft, EmptyAreHere}
use Rattle.nm_rndv.specs.Offers.{AllOut}
use Rattle.nm_rank.specs.Ranks.{RankView, known_from}
use Rattle.nm_global.specs.Emitted.{IsEmitted, Emitted, nothing}
use Rattle.nm_channels.specs.Finished.{Finished}
use Rattle.nm_channels.specs.Moments.{LogEntry, pulled_from, taken_from}
use Rattle.nm_global.specs.Logged.{IsLogged}

-- One rank of a run: what it is seen as, how many of its commands ran, the line of one that waits,
-- its log, the receives whose results were given, and what left it for each rank.
pub record OneRank : Type 0 where
  pub view : RankView
  pub at : ℕ
  pub waits : Option ℕ
  pub log : List LogEntry
  pub given : List ℕ
  pub left : ℕ → Emitted

-- a rank at the start, seen as this: none of its commands ran, and nothing left it
abbrev pub new_rank : RankView → OneRank
new_rank v =
    record { view = v; at = 0; waits = None; log = []; given = []; left = λ to. nothing }

-- what `nm_channels` speaks of
abbrev pub finished_of : OneRank → Finished
finished_of r = record { at = r.at; waits = r.waits; log = r.log }

-- what is recorded of it at the end
abbrev pub recorded_of : OneRank → Ended
recorded_of r = record { at = r.at; waits = r.waits; events = r.view.events }

-- R holds of each rank and its number
abbrev pub Each : (ℕ → OneRank → Type 0) → List OneRank → Type 0
Each R ranks = (i : ℕ) → IfSome (slice_get ranks i) (R i)

-- R holds of each ordered pair of ranks, equal ones included
abbrev pub EachTwo : (ℕ → ℕ → OneRank → OneRank → Type 0) → List OneRank → Type 0
EachTwo R ranks = Each (λ i a. Each (λ j b. R i j a b) ranks) ranks

-- Rank i stands at its place in a run, where its commands are these: its history is a run of them, its log
-- is sound, and what left it for each rank is what its history calls for.
pub record RankInvariant (shape : Sizes) (commands : List Numbered) (i : ℕ) (r : OneRank) : Type 0 where
  pub me : r.view.me ≡ i
  pub sizes : r.view.sizes ≡ shape
  pub run : IsRankRun shape commands r.at r.view.events
  pub logged : IsLogged shape.eager (sent_body commands) commands r.view r.log r.given
  pub left : (to : ℕ) → to < shape.ranks → IsEmitted (sent_body commands) r.view to (r.left to)

-- What rank j took of rank i is what left that one for it: nothing is between them.
pub record IsPassed (i j : ℕ) (a b : OneRank) : Type 0 where
  pub packets : map (λ t. t.packet) (taken_from i b.log) ≡ (a.left j).packets
  pub pieces : map (λ d. d.piece) (pulled_from i b.log) ≡ (a.left j).pieces

-- Nothing is left to send: no packet is in the outbox, the eager messages and the cleared ones have
-- left, and what was paired without a body is here. The clock is not worn.
pub record HasNothingToSend (r : OneRank) : Type 0 where
  pub outbox : r.view.sending.outbox.letters ≡ []
  pub eager : EagerHaveLeft r.view.events
  pub pieces : AllOut r.view.sending.offers
  pub cleared :
      (to : ℕ) → to < r.view.sizes.ranks →
      pushed_out r.view.events to ≡ to_push r.view.events (known_from r.view.known to) to
  pub empty : EmptyAreHere r.view.events
  pub early : r.view.clock < WORN_STAMP

-- The ranks of a run, where the commands of each are these, nothing is left to send and nothing is between
-- them.
pub record AreAtRest (shape : Sizes) (commands : ℕ → List Numbered) (ranks : List OneRank) : Type 0 where
  pub many : length ranks ≡ shape.ranks
  pub standing : Each (λ i r. RankInvariant shape (commands i) i r) ranks
  pub passed : EachTwo IsPassed ranks
  pub resting : Each (λ i r. HasNothingToSend r) ranks
