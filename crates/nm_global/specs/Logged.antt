-- How a rank stands to its log.
use Rattle.std.specs.Prelude.{◌≡◌, ℕ, ◌<◌, false, if◌then◌else◌, Some, List, length}
use Rattle.std.specs.Option.{option_map_or}
use Rattle.std.specs.List.{AllByRecursion}
use Rattle.nm_types.specs.declared.messages.Arrival.{Arrival}
use Rattle.nm_types.specs.Commands.{Numbered}
use Rattle.nm_history.specs.declared.events.Event.{Event}
use Rattle.nm_history.specs.Completion.{pair_of_receive}
use Rattle.nm_history.specs.Matching.{is_of_message}
use Rattle.nm_history.specs.Sends.{Sent, is_ask, receives}
use Rattle.nm_history.specs.Bytes.{eager_bytes, piece_bytes}
use Rattle.nm_history.specs.Continues.{has}
use Rattle.nm_history.specs.Known.{known_by, nothing_known}
use Rattle.nm_history.specs.Pieces.{count_continued}
use Rattle.nm_request.specs.declared.Req.{Req}
use Rattle.nm_request.specs.declared.Kind.TheVariants as kind
use Rattle.nm_request.specs.Requests.{kind_of}
use Rattle.nm_receiving.specs.Receipts.{came_of, drawn_from}
use Rattle.nm_channels.specs.Moments.{LogEntry, clock_of, history_of, pulled_from, taken_from}
use Rattle.nm_channels.specs.Sound.{AreSound}
use Rattle.nm_rank.specs.Ranks.{RankView, count_of, known_from}

-- the bytes of a message that came, in its packets or in its pieces, by a log
abbrev pub came_by : List LogEntry → Arrival → List ℕ
came_by log a =
    if is_ask a.env.how
    then piece_bytes a.n (pulled_from a.env.from log)
    else eager_bytes a.n nothing_known (taken_from a.env.from log)

-- the receive of this number did not take the message
abbrev pub IsNotOf : List Event → Arrival → ℕ → Type 0
IsNotOf h a number =
    option_map_or (is_of_message a.env.from a.n) (pair_of_receive h number) false ≡ false

-- no receive of these numbers took the message
abbrev pub IsUngiven : List Event → List ℕ → Arrival → Type 0
IsUngiven h given a = AllByRecursion (IsNotOf h a) given

-- there is one count of each kind for each rank of the run
pub record HasCounts (v : RankView) : Type 0 where
  pub known : length v.known ≡ v.sizes.ranks
  pub took : length v.took ≡ v.sizes.ranks
  pub pulled : length v.pulled ≡ v.sizes.ranks
  pub drawn : length v.receiving.drawn ≡ v.sizes.ranks

-- what is known of each rank is what its packets tell, and its packets and pieces are counted
pub record HasTaken (v : RankView) (log : List LogEntry) : Type 0 where
  pub known : (from : ℕ) → known_from v.known from ≡ known_by (taken_from from log)
  pub took : (from : ℕ) → count_of v.took from ≡ length (taken_from from log)
  pub pulled : (from : ℕ) → count_of v.pulled from ≡ length (pulled_from from log)
  pub drawn : (from : ℕ) → drawn_from v.receiving from ≡ count_continued (pulled_from from log)

-- each message that no receive of these numbers took has the bytes that came
abbrev pub HasBytes : RankView → List LogEntry → List ℕ → Type 0
HasBytes v log given =
    (a : Arrival) → IsUngiven v.events given a → came_of v.receiving a ≡ came_by log a

-- The receives of these numbers, whose results were given, were started. The receive of a live
-- request was too, is none of these, and is that of no other live request.
pub record AreGiven (v : RankView) (given : List ℕ) : Type 0 where
  pub started : AllByRecursion (λ number. number < length (receives v.events)) given
  pub live :
      (r : Req) (number : ℕ) → kind_of v.requests r ≡ Some (kind.Receive number) →
      (has given number ≡ false) × (number < length (receives v.events))
  pub apart :
      (q r : Req) (number : ℕ) → kind_of v.requests q ≡ Some (kind.Receive number) →
      kind_of v.requests r ≡ Some (kind.Receive number) → q ≡ r

-- A rank is that of these moments, which are sound: its history and its clock are theirs, and so is
-- what it knows, counts and holds. The results of the receives of the given numbers were given,
-- with the bytes of their messages.
pub record IsLogged (eager : ℕ) (bodies : Sent → List ℕ) (commands : List Numbered) (v : RankView)
    (log : List LogEntry) (given : List ℕ) : Type 0 where
  pub sound : AreSound eager bodies commands log
  pub limit : v.sizes.eager ≡ eager
  pub events : v.events ≡ history_of log
  pub clock : v.clock ≡ clock_of log
  pub counts : HasCounts v
  pub taken : HasTaken v log
  pub bytes : HasBytes v log given
  pub requests : AreGiven v given
