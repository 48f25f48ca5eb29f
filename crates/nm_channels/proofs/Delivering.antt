-- The messages of one rank arrive at another, all and in order.
use Rattle.std.proofs.Common.{◌≡◌, ℕ, suc, ◌==◌, Bool, true, false, not, ◌&&◌, ◌||◌, cond, Option, Some, None, List}
use Rattle.std.proofs.Common.{[], ◌∷◌, ◌++◌, length, map, refl, sym, ◌∙◌, ap, subst, append-nil, append_assoc}
use Rattle.std.proofs.Common.{length-append, arith}
use Rattle.std.specs.List.{AllZip, AllByRecursion, filter, cons_option, list_any}
use Rattle.std.proofs.lemmas.List.Folds.{list_any-append}
use Rattle.nm_types.specs.Commands.{Numbered}
use Rattle.nm_types.specs.declared.packets.What.{What}
use Rattle.nm_types.specs.declared.packets.What.TheVariants as what
use Rattle.nm_history.specs.declared.events.Event.{Event}
use Rattle.nm_history.specs.declared.events.Happened.{Happened}
use Rattle.nm_history.specs.declared.events.Happened.TheVariants.{Send, Recall, Out}
use Rattle.nm_history.specs.AtEach.{AtEach, AtEachAfter, in_turn_after, in_turn}
use Rattle.nm_history.specs.Sends.{Sent, sends, sent_of, is_ask, Arrived, arrivals}
use Rattle.nm_history.specs.Happens.{happened, is_recall}
use Rattle.nm_history.specs.Outgoing.{outgoing, packets_by}
use Rattle.nm_history.specs.RankRun.{Always, NumberAt, CancelAt}
use Rattle.nm_history.specs.Delivery.{ArriveInOrder}
use Rattle.nm_history.proofs.AtEachLemmas.{AtEach-split, AtEach-from_splits}
use Rattle.nm_history.proofs.DeliveryLemmas.{AtEach-along, sends-push}
use Rattle.nm_history.specs.Rules.{IsRightAt}
use Rattle.nm_channels.proofs.Streams.{Announced, announced, StreamIsRight, completed, Announces, StreamGoes, SenderAt}
use Rattle.nm_channels.proofs.Streams.{eager_numbers, StreamContinued}
use Rattle.nm_channels.specs.Moments.{LogEntry, Cause, history_of, taken_from, EachMomentAfter}
use Rattle.nm_channels.specs.Sound.{AreSound, MayHappen, MadeBy, OwnEvent, IsSendable}
use Rattle.nm_history.specs.Effects.{happenings, packet_makes, ask_ends, whole_if}
use Rattle.nm_history.specs.Known.{Known, Taken, nothing_known, known_by}
use Rattle.nm_history.specs.Pieces.{piece_makes, Due, is_due}
use Rattle.nm_channels.specs.Moments.Cause.{Acted, Took, Drew}
use Rattle.nm_channels.proofs.Arriving.{ArrivedAs, arrivals_announced, stream_is_right}
use Rattle.nm_channels.proofs.Streaming.{Between, Carries, InTime, event_goes}
use Rattle.nm_history.proofs.Basic.{or_false}
use Rattle.nm_history.proofs.Sent.{sends-cons, sent_number}
use Rattle.nm_types.proofs.ListLemmas.{all_append}
use Rattle.nm_history.proofs.Right.{append_after}
use Rattle.nm_history.proofs.EachLemmas.{AtEach-prefix}

recall-push : (before : List Event) (e : Event) (j n : ℕ) → happened (is_recall j n) (before ++ e ∷ [])
    ≡ (happened (is_recall j n) before || is_recall j n e.what)
recall-push before e j n = list_any-append (λ (e : Event). is_recall j n e.what) before (e ∷ [])
    ∙ ap (λ (b : Bool). happened (is_recall j n) before || b) (or_false (is_recall j n e.what))

numbers-append : (xs ys : List Sent) → eager_numbers (xs ++ ys) ≡ eager_numbers xs ++ eager_numbers ys
numbers-append [] ys = refl
numbers-append (x ∷ xs) ys = by_test (not (is_ask x.how)) (numbers-append xs ys) where
  by_test : (b : Bool) → eager_numbers (xs ++ ys) ≡ eager_numbers xs ++ eager_numbers ys →
      map (λ s. s.n) (cond b (x ∷ filter (λ s. not (is_ask s.how)) (xs ++ ys))
      (filter (λ s. not (is_ask s.how)) (xs ++ ys))) ≡ map (λ s. s.n)
      (cond b (x ∷ filter (λ s. not (is_ask s.how)) xs) (filter (λ s. not (is_ask s.how)) xs)) ++ eager_numbers ys
  by_test true same = ap (λ (ns : List ℕ). x.n ∷ ns) same
  by_test false same = same

-- the packets that a history calls for continue, and announce its sends
pub all_go : (eager i j : ℕ) (bodies : Sent → List ℕ) (before events : List Event) (num : ℕ) (known : Known)
    (ts : List Taken) (withdrawn : List ℕ) →
    AtEachAfter (λ before e. SenderAt eager bodies before e.stamp e.what) before events →
    Between (length (sends before j)) withdrawn known →
    ((n : ℕ) → list_any (λ m. m == n) withdrawn ≡ happened (is_recall j n) before) →
    Carries i num (in_turn_after (λ before e. packets_by bodies j before e.stamp e.what) before events) ts →
    InTime ts → StreamIsRight eager known ts → StreamGoes i (sends events j) (eager_numbers (sends events j)) known ts
all_go eager i j bodies before [] num known [] withdrawn each between agree called in_time right = (tt, tt, refl)
all_go eager i j bodies before [] num known (t ∷ ts) withdrawn each between agree called in_time right = absurd called
all_go eager i j bodies before (e ∷ events) num known ts withdrawn each between agree called in_time right =
    subst (λ (ss : List Sent). StreamGoes i ss (eager_numbers ss) known ts) (sym (sends-cons e events j))
    (subst (λ (ns : List ℕ). StreamGoes i
    (filter (λ s. s.to == j) (cons_option (sent_of e.stamp e.what) []) ++ sends events j) ns known ts)
    (sym (numbers-append (filter (λ s. s.to == j) (cons_option (sent_of e.stamp e.what) [])) (sends events j)))
    (event_goes eager i j num (length (sends before j)) e.stamp bodies before e.what _ (sends events j)
    (eager_numbers (sends events j)) withdrawn known ts each.0 refl between agree called in_time right
    (λ withdrawn' agree' num' known' ts' between' called' in_time' right'.
    all_go eager i j bodies (before ++ e ∷ []) events num' known' ts' withdrawn' each.1
    (subst (λ (k : ℕ). Between k withdrawn' known')
    (sym (ap (λ (ss : List Sent). length ss) (sends-push before e j) ∙ length-append (sends before j)
    (filter (λ s. s.to == j) (cons_option (sent_of e.stamp e.what) [])))) between')
    (λ n. agree' n ∙ sym (recall-push before e j n)) called' in_time' right')))

-- what is announced arrives
in_order : (i : ℕ) (ss : List Sent) (ms : List Announced) (as' : List Arrived) → AllZip (Announces i) ss ms →
    AllZip ArrivedAs ms as' → ArriveInOrder i ss as' × (length as' ≡ length ss)
in_order i [] [] [] announced arrived = (tt, refl)
in_order i [] [] (a ∷ as') announced arrived = absurd arrived
in_order i [] (m ∷ ms) as' announced arrived = absurd announced
in_order i (s ∷ ss) [] as' announced arrived = absurd announced
in_order i (s ∷ ss) (m ∷ ms) [] announced arrived = absurd arrived
in_order i (s ∷ ss) (m ∷ ms) (a ∷ as') announced arrived =
    let rest = in_order i ss ms as' announced.1 arrived.1 in
    ((arrived.0.0 ∙ announced.0.0, omega (arith, announced.0.1, arrived.0.1), rest.0), ap (λ (k : ℕ). suc k) rest.1)

-- the sender's packets continued, and its messages arrived
pub stream_arrives : (eager i j : ℕ) (bodies bodies' : Sent → List ℕ) (commands : List Numbered) (hi : List Event)
    (log : List LogEntry) →
    AtEach (λ before e. SenderAt eager bodies before e.stamp e.what) hi → AreSound eager bodies' commands log →
    Carries i 0 (outgoing bodies hi j) (taken_from i log) → InTime (taken_from i log) →
    AllByRecursion StreamContinued (taken_from i log) × ArriveInOrder i (sends hi j) (arrivals (history_of log) i)
    × (length (arrivals (history_of log) i) ≡ length (sends hi j))
    × (completed nothing_known (taken_from i log) ≡ eager_numbers (sends hi j))
unfolding AtEach in_turn
stream_arrives eager i j bodies bodies' commands hi log each sound called in_time =
    let goes = all_go eager i j bodies [] hi 0 nothing_known (taken_from i log) [] each
    (record { counted = refl; finished = refl; same = refl }) (λ n. refl) called in_time
    (stream_is_right eager bodies' commands [] log i sound) in
    let came = in_order i (sends hi j) (announced (taken_from i log)) (arrivals (history_of log) i) goes.1
    (arrivals_announced eager bodies' commands [] log i sound) in
    (goes.0, came.0, came.1, goes.2)

-- a rank's own sends are in range
abbrev LogSender : ℕ → (Sent → List ℕ) → List Event → ℕ → Happened → Type 0
LogSender eager bodies before stamp (Send to n tag ctx len how line) =
    IsSendable eager bodies
    (record { stamp = stamp; to = to; n = n; tag = tag; ctx = ctx; len = len; how = how; line = line })
LogSender eager bodies before stamp _ = Unit {0}

abbrev LogSenderAt : ℕ → (Sent → List ℕ) → List Event → Event → Type 0
LogSenderAt eager bodies before e = LogSender eager bodies before e.stamp e.what

-- what happens is no send
abbrev IsNoSend : Happened → Type 0
IsNoSend (Send to n tag ctx len how line) = ⊥
IsNoSend _ = Unit {0}

no_sends : (eager : ℕ) (bodies : Sent → List ℕ) (before events : List Event) →
    AllByRecursion IsNoSend (happenings events) → AtEachAfter (LogSenderAt eager bodies) before events
no_sends eager bodies before [] none = tt
no_sends eager bodies before (e ∷ events) none =
    (by_what e.what none.0, no_sends eager bodies (before ++ e ∷ []) events none.1) where
      by_what : (w : Happened) → IsNoSend w → LogSender eager bodies before e.stamp w
      by_what (Send to n tag ctx len how line) none = absurd none
      by_what w none = tt

own_sends : (eager : ℕ) (bodies : Sent → List ℕ) (commands : List Numbered) (log : List LogEntry)
    (h events : List Event) → AtEachAfter (λ h e. OwnEvent eager bodies commands log h e.stamp e.what) h events →
    AtEachAfter (LogSenderAt eager bodies) h events
own_sends eager bodies commands log h [] own = tt
own_sends eager bodies commands log h (e ∷ events) own =
    (by_what e.what own.0, own_sends eager bodies commands log (h ++ e ∷ []) events own.1) where
      by_what : (w : Happened) → OwnEvent eager bodies commands log h e.stamp w → LogSender eager bodies h e.stamp w
      by_what (Send to n tag ctx len how line) own = own
      by_what w own = tt

pub no_whole_sends : (b : Bool) (from n : ℕ) → AllByRecursion IsNoSend (whole_if b from n)
no_whole_sends true from n = (tt, tt)
no_whole_sends false from n = tt

packet_sends_none : (known : Known) (h : List Event) (from size : ℕ) (w : What) →
    AllByRecursion IsNoSend (packet_makes known h from w size ++ ask_ends known h from w)
packet_sends_none known h from size (what.Head tag ctx len) =
    (tt, all_append IsNoSend _ [] (no_whole_sends (len == size) from known.count) tt)
packet_sends_none known h from size (what.More m) = all_append IsNoSend _ []
    (no_whole_sends (known.missing == size) from m) tt
packet_sends_none known h from size (what.Ask tag ctx len) = (tt, no_whole_sends _ from known.count)
packet_sends_none known h from size (what.Clear m) = all_append IsNoSend _ [] (by_test _) tt where
  by_test : (b : Bool) → AllByRecursion IsNoSend (cond b (Out from m ∷ []) [])
  by_test true = (tt, tt)
  by_test false = tt
packet_sends_none known h from size (what.Withdraw m) = (tt, tt)
packet_sends_none known h from size (what.Withdrawn m done) = (tt, tt)

cause_sends : (eager : ℕ) (bodies : Sent → List ℕ) (commands : List Numbered) (before : List LogEntry) (c : Cause)
    (events : List Event) → MadeBy eager bodies commands before c events → AtEachAfter (LogSenderAt eager bodies)
    (history_of before) events
cause_sends eager bodies commands before Acted events made = own_sends eager bodies commands before
    (history_of before) events made
cause_sends eager bodies commands before (Took t) events made = no_sends eager bodies (history_of before) events
    (subst (λ (ws : List Happened). AllByRecursion IsNoSend ws) (sym made.1)
    (by_test (known_by (taken_from t.packet.from before)) t.continued)) where
      by_test : (known : Known) (b : Bool) →
          AllByRecursion IsNoSend
          (cond b (packet_makes known (history_of before) t.packet.from t.packet.what (length t.packet.payload) ++
          ask_ends known (history_of before) t.packet.from t.packet.what) [])
      by_test known true = packet_sends_none known (history_of before) t.packet.from (length t.packet.payload)
          t.packet.what
      by_test known false = tt
cause_sends eager bodies commands before (Drew d) events made = no_sends eager bodies (history_of before) events
    (subst (λ (ws : List Happened). AllByRecursion IsNoSend ws) (sym made.2) (by_due _)) where
      by_due : (o : Option Due) → AllByRecursion IsNoSend (piece_makes d.piece.from o d.piece)
      by_due None = tt
      by_due (Some due) = no_whole_sends (is_due d.piece due && due.last) d.piece.from d.piece.n

pub history-append : (log more : List LogEntry) → history_of (log ++ more) ≡ history_of log ++ history_of more
history-append [] more = refl
history-append (m ∷ log) more = ap (λ (h : List Event). m.events ++ h) (history-append log more)
    ∙ sym (append_assoc m.events (history_of log) (history_of more))

pub history-push : (log : List LogEntry) (m : LogEntry) → history_of (log ++ m ∷ []) ≡ history_of log ++ m.events
history-push log m = history-append log (m ∷ []) ∙ ap (λ (h : List Event). history_of log ++ h) (append-nil m.events)

log_sends : (eager : ℕ) (bodies : Sent → List ℕ) (commands : List Numbered) (before log : List LogEntry) →
    EachMomentAfter (MayHappen eager bodies commands) before log → AtEachAfter (LogSenderAt eager bodies)
    (history_of before) (history_of log)
log_sends eager bodies commands before [] sound = tt
log_sends eager bodies commands before (m ∷ log) sound =
    append_after (LogSenderAt eager bodies) (history_of before) m.events (history_of log)
    (cause_sends eager bodies commands before m.cause m.events sound.0.made)
    (subst (λ (k : List Event). AtEachAfter (LogSenderAt eager bodies) k (history_of log)) (history-push before m)
    (log_sends eager bodies commands (before ++ m ∷ []) log sound.1))

sound_sends : (eager : ℕ) (bodies : Sent → List ℕ) (commands : List Numbered) (log : List LogEntry) →
    AreSound eager bodies commands log → AtEach (LogSenderAt eager bodies) (history_of log)
unfolding AtEach
sound_sends eager bodies commands log sound = log_sends eager bodies commands [] log sound

-- the sends and recalls of a rank's run are in order
pub sender_at : (eager ranks : ℕ) (bodies : Sent → List ℕ) (commands : List Numbered) (log : List LogEntry) →
    AreSound eager bodies commands log → Always (NumberAt ranks) (history_of log) → Always (CancelAt commands)
    (history_of log) →
    AtEach (λ before e. SenderAt eager bodies before e.stamp e.what) (history_of log)
sender_at eager ranks bodies commands log sound numbers cancels =
    AtEach-from_splits (λ before e. SenderAt eager bodies before e.stamp e.what) (history_of log)
    (λ before e after split.
    let own = AtEach-split (LogSenderAt eager bodies) before e after
    (subst (λ (h : List Event). AtEach (LogSenderAt eager bodies) h) split
    (sound_sends eager bodies commands log sound)) in
    let number = AtEach-split (λ before e. NumberAt ranks before e.what) before e after
    (subst (λ (h : List Event). Always (NumberAt ranks) h) split numbers) in
    let cancel = AtEach-split (λ before e. CancelAt commands before e.what) before e after
    (subst (λ (h : List Event). Always (CancelAt commands) h) split cancels) in
    let numbers_before = AtEach-prefix (λ before e. NumberAt ranks before e.what) before (e ∷ after)
    (subst (λ (h : List Event). Always (NumberAt ranks) h) split numbers) in
    all_three before e.stamp e.what numbers_before own number cancel)
  where
    all_three : (before : List Event) (stamp : ℕ) (w : Happened) → Always (NumberAt ranks) before →
        LogSender eager bodies before stamp w → NumberAt ranks before w → CancelAt commands before w →
        SenderAt eager bodies before stamp w
    all_three before stamp (Send to n tag ctx len how line) numbers own number cancel = (number, own)
    all_three before stamp (Recall to n) numbers own number cancel =
        (sent_number ranks before to n numbers cancel.1, cancel.0)
    all_three before stamp w numbers own number cancel = tt

-- the same by the rules that commands play no part in
pub sender_right : (eager ranks : ℕ) (bodies : Sent → List ℕ) (commands : List Numbered) (log : List LogEntry) →
    AreSound eager bodies commands log → AtEach (λ before e. IsRightAt ranks before e.what) (history_of log) →
    AtEach (λ before e. SenderAt eager bodies before e.stamp e.what) (history_of log)
sender_right eager ranks bodies commands log sound right =
    AtEach-from_splits (λ before e. SenderAt eager bodies before e.stamp e.what) (history_of log)
    (λ before e after split.
    let own = AtEach-split (LogSenderAt eager bodies) before e after
    (subst (λ (h : List Event). AtEach (LogSenderAt eager bodies) h) split
    (sound_sends eager bodies commands log sound)) in
    let each = subst (λ (h : List Event). AtEach (λ before e. IsRightAt ranks before e.what) h) split right in
    let here = AtEach-split (λ before e. IsRightAt ranks before e.what) before e after each in
    let numbers_before = AtEach-along (λ before e. IsRightAt ranks before e.what)
    (λ before e. NumberAt ranks before e.what) before
    (λ b x is. is.numbers) (AtEach-prefix (λ before e. IsRightAt ranks before e.what) before (e ∷ after) each) in
    all_three before e.stamp e.what numbers_before own here)
  where
    all_three : (before : List Event) (stamp : ℕ) (w : Happened) → Always (NumberAt ranks) before →
        LogSender eager bodies before stamp w → IsRightAt ranks before w → SenderAt eager bodies before stamp w
    all_three before stamp (Send to n tag ctx len how line) numbers own right = (right.numbers, own)
    all_three before stamp (Recall to n) numbers own right =
        (sent_number ranks before to n numbers right.cancels.1, right.cancels.0)
    all_three before stamp w numbers own right = tt
