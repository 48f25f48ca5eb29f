-- What is true at each moment of a rank: the events that a packet or a piece makes, and what the
-- rank does by itself.
use Rattle.std.specs.Prelude.{◌≡◌, ℕ, ◌<◌, ◌≤◌, false, if◌then◌else◌, Some, IfSome}
use Rattle.std.specs.Prelude.{option_and_then, List, length}
use Rattle.std.specs.Option.{option_map_or}
use Rattle.std.specs.List.{slice_get}
use Rattle.std.specs.Bool.{OnTrue}
use Rattle.nm_types.specs.declared.limits.TheConstants.{MAX_BODY, MAX_TAG}
use Rattle.nm_types.specs.declared.answers.Answer.TheVariants.{Got}
use Rattle.nm_types.specs.Commands.{Numbered, command_at}
use Rattle.nm_history.specs.declared.events.Event.{Event}
use Rattle.nm_history.specs.declared.events.Happened.{Happened}
use Rattle.nm_history.specs.declared.events.Happened.TheVariants.{Send, Arrive, Out, Withdraw}
use Rattle.nm_history.specs.declared.events.Happened.TheVariants.{Undone, Ran}
use Rattle.nm_history.specs.AtEach.{AtEachAfter}
use Rattle.nm_history.specs.Sends.{Sent, sends, is_ask, message_of}
use Rattle.nm_history.specs.Delivery.{asked_pair, is_asked}
use Rattle.nm_history.specs.Known.{known_by, nothing_known}
use Rattle.nm_history.specs.Continues.{continues}
use Rattle.nm_history.specs.Effects.{happenings, taken_events}
use Rattle.nm_history.specs.Pieces.{due_pieces, count_continued, is_due, piece_makes}
use Rattle.nm_history.specs.Clearance.{to_push, pushed_out}
use Rattle.nm_history.specs.Bytes.{eager_bytes, piece_bytes}
use Rattle.nm_history.specs.Clock.{AreStamped}
use Rattle.nm_channels.specs.Moments.{Cause, LogEntry, EachMoment, history_of, taken_from, pulled_from}
use Rattle.nm_channels.specs.Moments.{clock_at, clock_of}
use Rattle.nm_channels.specs.Moments.Cause.{Acted, Took, Drew}

-- the bytes of message n of a rank that came, in its packets or in its pieces
abbrev pub bytes_of_message : List LogEntry → ℕ → ℕ → List ℕ
bytes_of_message log from n =
    if option_map_or (λ a. is_ask a.env.how) (message_of (history_of log) from n) false
    then piece_bytes n (pulled_from from log)
    else eager_bytes n nothing_known (taken_from from log)

-- a send is in range, and its body has its length
pub record IsSendable (eager : ℕ) (bodies : Sent → List ℕ) (s : Sent) : Type 0 where
  pub short : s.len ≤ (if is_ask s.how then MAX_BODY else eager)
  pub tagged : s.tag ≤ MAX_TAG
  pub sized : length (bodies s) ≡ s.len

-- What a rank does by itself after these moments, with these events before: it takes no message in
-- and answers no recall, a send is in range, a message that was sent by asking and has a body
-- leaves in its turn among those that were cleared, and a result shows the bytes that came.
abbrev pub OwnEvent :
    ℕ → (Sent → List ℕ) → List Numbered → List LogEntry → List Event → ℕ → Happened → Type 0
OwnEvent eager bodies commands log h stamp (Arrive a) = ⊥
OwnEvent eager bodies commands log h stamp (Withdraw from n done) = ⊥
OwnEvent eager bodies commands log h stamp (Undone to n done) = ⊥
OwnEvent eager bodies commands log h stamp (Send to n tag ctx len how line) =
    IsSendable eager bodies
    (record {
      stamp = stamp;
      to = to;
      n = n;
      tag = tag;
      ctx = ctx;
      len = len;
      how = how;
      line = line;
    })
OwnEvent eager bodies commands log h stamp (Out to n) =
    OnTrue (is_asked (sends h to) n)
    (slice_get (to_push h (known_by (taken_from to log)) to) (length (pushed_out h to)) ≡ Some n)
OwnEvent eager bodies commands log h stamp (Ran line (Got source tag body)) =
    IfSome (option_and_then (asked_pair commands h) (command_at commands line))
    (λ pair. body ≡ bytes_of_message log pair.arrival.env.from pair.arrival.n)
OwnEvent eager bodies commands log h stamp _ = Unit {0}

-- The events of a moment, by its cause. A packet continues its stream or is a stray; a piece is
-- taken only where one is due, and continues where it is that one.
abbrev pub MadeBy : ℕ → (Sent → List ℕ) → List Numbered → List LogEntry → Cause → List Event → Type 0
MadeBy eager bodies commands before Acted events =
    AtEachAfter (λ h e. OwnEvent eager bodies commands before h e.stamp e.what) (history_of before)
    events
MadeBy eager bodies commands before (Took t) events =
    let known = known_by (taken_from t.packet.from before) in
    let h = history_of before in
    (t.continued ≡ continues eager known h t.packet) × (happenings events ≡ taken_events known h t)
MadeBy eager bodies commands before (Drew d) events =
    let due = due_pieces (history_of before) d.piece.from in
    let place = count_continued (pulled_from d.piece.from before) in
    (place < length due)
    × (d.continued ≡ option_map_or (is_due d.piece) (slice_get due place) false)
    × (happenings events ≡ piece_makes d.piece.from (slice_get due place) d.piece)

-- a moment may follow others: its events are those of its cause, and have the next stamps
pub record MayHappen (eager : ℕ) (bodies : Sent → List ℕ) (commands : List Numbered)
    (before : List LogEntry) (m : LogEntry) : Type 0 where
  pub made : MadeBy eager bodies commands before m.cause m.events
  pub stamped : AreStamped (clock_at (clock_of before) m.cause) m.events

-- the moments of a rank are sound: each may follow those before it
abbrev pub AreSound : ℕ → (Sent → List ℕ) → List Numbered → List LogEntry → Type 0
AreSound eager bodies commands log = EachMoment (MayHappen eager bodies commands) log
