-- What arrives at a rank, by the packets that it took.
use Rattle.std.proofs.Common.{◌≡◌, ℕ, ◌+◌, ◌<◌, ◌==◌, Bool, true, false, ◌&&◌, cond, Option, Some, None, List, []}
use Rattle.std.proofs.Common.{◌∷◌, ◌++◌, length, max, refl, sym, ◌∙◌, ap, subst, append-nil, arith}
use Rattle.std.specs.Prelude.{fold, nat_lt}
use Rattle.std.specs.List.{AllZip, filter, filter_map, cons_option}
use Rattle.std.specs.Bool.{OnTrue}
use Rattle.std.proofs.lemmas.List.Elements.{filter_map-append}
use Rattle.nm_types.specs.declared.messages.Arrival.{Arrival}
use Rattle.nm_types.specs.declared.packets.What.{What}
use Rattle.nm_types.specs.declared.packets.What.TheVariants as what
use Rattle.nm_types.specs.Commands.{Numbered}
use Rattle.nm_history.specs.declared.events.Event.{Event}
use Rattle.nm_history.specs.declared.events.Happened.{Happened}
use Rattle.nm_history.specs.declared.events.Happened.TheVariants.{Arrive, Out}
use Rattle.nm_history.specs.AtEach.{AtEachAfter}
use Rattle.nm_history.specs.Sends.{Sent, Arrived, arrivals, arrived_of, arrival_of}
use Rattle.nm_channels.proofs.Streams.{Announced, announced_as, announced_by, announced, StreamIsRight}
use Rattle.nm_channels.specs.Moments.{LogEntry, Cause, history_of, taken_from, taken_of, clock_at, clock_of}
use Rattle.nm_channels.specs.Moments.{EachMomentAfter}
use Rattle.nm_channels.specs.Sound.{MayHappen, MadeBy, OwnEvent}
use Rattle.nm_history.specs.Clock.{AreStamped}
use Rattle.nm_history.specs.Continues.{WORN_STAMP, continues_stream, is_of_stream}
use Rattle.nm_history.specs.Effects.{happenings, packet_makes, ask_ends, whole_if}
use Rattle.nm_history.specs.Known.{Known, Taken, known_by, known_after, nothing_known}
use Rattle.nm_history.specs.Pieces.{Pulled, piece_makes, Due, is_due}
use Rattle.nm_channels.specs.Moments.Cause.{Acted, Took, Drew}
use Rattle.nm_history.proofs.Growing.{fold-append}
use Rattle.nm_types.proofs.NumberLemmas.{same_number}
use Rattle.nm_history.proofs.AppendLemmas.{arrivals-append}

-- an arrival is that of an announced message, and has a greater stamp
abbrev pub ArrivedAs : Announced → Arrived → Type 0
ArrivedAs m a = (a.arrival.env ≡ m.env) × (m.stamp < a.stamp)

pub zip-append : {A B : Type 0} (R : A → B → Type 0) (xs xs' : List A) (ys ys' : List B) → AllZip R xs ys →
    AllZip R xs' ys' → AllZip R (xs ++ xs') (ys ++ ys')
zip-append R [] xs' [] ys' first rest = rest
zip-append R [] xs' (y ∷ ys) ys' first rest = absurd first
zip-append R (x ∷ xs) xs' [] ys' first rest = absurd first
zip-append R (x ∷ xs) xs' (y ∷ ys) ys' first rest = (first.0, zip-append R xs xs' ys ys' first.1 rest)

-- the arrivals of what happens
abbrev pub arrivals_in : List Happened → List Arrival
arrivals_in ws = filter_map arrival_of ws

-- events of which none is an arrival
no_arrivals : (events : List Event) (i : ℕ) → arrivals_in (happenings events) ≡ [] → arrivals events i ≡ []
no_arrivals [] i none = refl
no_arrivals (e ∷ events) i none = by_what e.what (no_arrivals events i) none where
  by_what : (w : Happened) → (arrivals_in (happenings events) ≡ [] → arrivals events i ≡ []) →
      arrivals_in (w ∷ happenings events) ≡ [] → filter (λ a. a.arrival.env.from == i)
      (cons_option (arrived_of e.stamp w) (filter_map (λ e. arrived_of e.stamp e.what) events)) ≡ []
  by_what (Arrive a) later none = cc
  by_what w later none = later none

no_whole_arrives : (b : Bool) (from n : ℕ) → arrivals_in (whole_if b from n) ≡ []
no_whole_arrives true from n = refl
no_whole_arrives false from n = refl

pub own_none : (eager : ℕ) (bodies : Sent → List ℕ) (commands : List Numbered) (log : List LogEntry)
    (h events : List Event) → AtEachAfter (λ h e. OwnEvent eager bodies commands log h e.stamp e.what) h events →
    arrivals_in (happenings events) ≡ []
own_none eager bodies commands log h [] own = refl
own_none eager bodies commands log h (e ∷ events) own = by_what e.what own.0
    (own_none eager bodies commands log (h ++ e ∷ []) events own.1) where
      by_what : (w : Happened) → OwnEvent eager bodies commands log h e.stamp w → arrivals_in (happenings events) ≡ [] →
          arrivals_in (w ∷ happenings events) ≡ []
      by_what (Arrive a) own' later = absurd own'
      by_what w own' later = later

piece_none : (from : ℕ) (due : Option Due) (d : Pulled) → arrivals_in (piece_makes from due d.piece) ≡ []
piece_none from None d = refl
piece_none from (Some due) d = no_whole_arrives (is_due d.piece due && due.last) from d.piece.n

-- events that begin with an arrival and have no other
first_arrival : (i clock : ℕ) (a : Arrival) (ws : List Happened) (events : List Event) →
    happenings events ≡ Arrive a ∷ ws → arrivals_in ws ≡ [] → AreStamped clock events → arrivals events i ≡ cond
    (a.env.from == i) (record { stamp = clock + 1; arrival = a } ∷ []) []
first_arrival i clock a ws [] same none stamped = cc
first_arrival i clock a ws (e ∷ events) same none stamped =
    let what_is : e.what ≡ Arrive a = cc in
    let rest_is : happenings events ≡ ws = cc in
    let rest : arrivals events i ≡ [] = no_arrivals events i (ap arrivals_in rest_is ∙ none) in
    rw (what_is, stamped.0) (by_source (a.env.from == i) rest)
  where
    by_source : (b : Bool) → arrivals events i ≡ [] →
        cond b (record { stamp = clock + 1; arrival = a } ∷ arrivals events i) (arrivals events i) ≡ cond b
        (record { stamp = clock + 1; arrival = a } ∷ []) []
    by_source true rest = ap (λ (xs : List Arrived). record { stamp = clock + 1; arrival = a } ∷ xs) rest
    by_source false rest = rest

clock_passes : (clock stamp : ℕ) → stamp < max clock stamp + 1
clock_passes clock stamp = omega arith

-- of a packet that announces no message
quiet : (i : ℕ) (events : List Event) (ws : List Happened) → happenings events ≡ ws → arrivals_in ws ≡ [] →
    AllZip ArrivedAs [] (arrivals events i)
quiet i events ws same none = rw (no_arrivals events i (ap arrivals_in same ∙ none)) tt

-- of a packet that announces one
loud : (i clock stamp : ℕ) (b : Bool) (a : Arrival) → (a.env.from == i) ≡ b →
    (ws : List Happened) (events : List Event) → happenings events ≡ Arrive a ∷ ws → arrivals_in ws ≡ [] →
    AreStamped (max clock stamp) events →
    AllZip ArrivedAs (cond b (record { stamp = stamp; env = a.env } ∷ []) []) (arrivals events i)
loud i clock stamp b a test ws events same none stamped =
    subst (λ (xs : List Arrived). AllZip ArrivedAs (cond b (record { stamp = stamp; env = a.env } ∷ []) []) xs)
    (sym (first_arrival i (max clock stamp) a ws events same none stamped
    ∙ ap (λ (b : Bool). cond b (record { stamp = max clock stamp + 1; arrival = a } ∷ []) []) test)) (by_test b)
  where
    by_test : (b : Bool) → AllZip ArrivedAs (cond b (record { stamp = stamp; env = a.env } ∷ []) [])
        (cond b (record { stamp = max clock stamp + 1; arrival = a } ∷ []) [])
    by_test true = ((refl, clock_passes clock stamp), tt)
    by_test false = tt

-- the messages that a packet announces, if it is of this rank
abbrev announced_here : ℕ → ℕ → Bool → ℕ → What → List Announced
announced_here i from continued stamp w = cond (from == i)
    (cons_option (cond continued (announced_as from stamp w) None) []) []

nothing_here : (b : Bool) → cond {A = List Announced} b [] [] ≡ []
nothing_here true = refl
nothing_here false = refl

packet_arrives : (i from clock stamp size : ℕ) (known : Known) (h : List Event) (continued : Bool) (w : What)
    (events : List Event) →
    happenings events ≡ cond continued (packet_makes known h from w size ++ ask_ends known h from w) [] →
    AreStamped (max clock stamp) events →
    AllZip ArrivedAs (announced_here i from continued stamp w) (arrivals events i)
packet_arrives i from clock stamp size known h false w events same stamped = rw nothing_here
    (quiet i events [] same refl)
packet_arrives i from clock stamp size known h true (what.Head tag ctx len) events same stamped =
    loud i clock stamp (from == i) _ refl _ events same
    (ap arrivals_in (append-nil (whole_if (len == size) from known.count))
    ∙ no_whole_arrives (len == size) from known.count) stamped
packet_arrives i from clock stamp size known h true (what.Ask tag ctx len) events same stamped =
    loud i clock stamp (from == i) _ refl _ events same (no_whole_arrives _ from known.count) stamped
packet_arrives i from clock stamp size known h true (what.More n) events same stamped =
    rw nothing_here (quiet i events _ same (ap arrivals_in (append-nil (whole_if (known.missing == size) from n))
    ∙ no_whole_arrives (known.missing == size) from n))
packet_arrives i from clock stamp size known h true (what.Clear n) events same stamped = rw nothing_here
    (quiet i events _ same (by_test _)) where
      by_test : (b : Bool) → arrivals_in (cond b (Out from n ∷ []) [] ++ []) ≡ []
      by_test true = refl
      by_test false = refl
packet_arrives i from clock stamp size known h true (what.Withdraw n) events same stamped = rw nothing_here
    (quiet i events _ same refl)
packet_arrives i from clock stamp size known h true (what.Withdrawn n done) events same stamped = rw nothing_here
    (quiet i events _ same refl)

-- the messages that a cause announces, if it is a packet of this rank
here_announced : (i : ℕ) (t : Taken) → announced (cons_option (taken_of i (Took t)) []) ≡ announced_here i
    t.packet.from t.continued t.packet.stamp t.packet.what
here_announced i t = by_source (t.packet.from == i) where
  by_source : (b : Bool) → announced (cons_option (cond b (Some t) None) []) ≡ cond b
      (cons_option (announced_by t) []) []
  by_source true = refl
  by_source false = refl

cause_arrives : (eager : ℕ) (bodies : Sent → List ℕ) (commands : List Numbered) (before : List LogEntry) (i clock : ℕ)
    (c : Cause) (events : List Event) →
    MadeBy eager bodies commands before c events → AreStamped (clock_at clock c) events →
    AllZip ArrivedAs (announced (cons_option (taken_of i c) [])) (arrivals events i)
cause_arrives eager bodies commands before i clock Acted events made stamped = quiet i events _ refl
    (own_none eager bodies commands before (history_of before) events made)
cause_arrives eager bodies commands before i clock (Took t) events made stamped =
    rw (here_announced i t) (packet_arrives i t.packet.from clock t.packet.stamp (length t.packet.payload)
    (known_by (taken_from t.packet.from before)) (history_of before) t.continued t.packet.what events made.1 stamped)
cause_arrives eager bodies commands before i clock (Drew d) events made stamped = quiet i events _ made.2
    (piece_none _ _ d)

announced-cons : (i : ℕ) (c : Cause) (packets : List Taken) → announced (cons_option (taken_of i c) packets)
    ≡ announced (cons_option (taken_of i c) []) ++ announced packets
announced-cons i c packets = by_option (taken_of i c) where
  by_option : (o : Option Taken) → announced (cons_option o packets) ≡ announced (cons_option o []) ++ announced packets
  by_option None = refl
  by_option (Some t) = by_packet (announced_by t) where
    by_packet : (o : Option Announced) → cons_option o (announced packets) ≡ cons_option o [] ++ announced packets
    by_packet None = refl
    by_packet (Some m) = refl

-- the arrivals of a rank are the messages that its packets announced
pub arrivals_announced : (eager : ℕ) (bodies : Sent → List ℕ) (commands : List Numbered) (before log : List LogEntry)
    (i : ℕ) → EachMomentAfter (MayHappen eager bodies commands) before log →
    AllZip ArrivedAs (announced (taken_from i log)) (arrivals (history_of log) i)
arrivals_announced eager bodies commands before [] i sound = tt
arrivals_announced eager bodies commands before (m ∷ log) i sound =
    rw (announced-cons i m.cause (taken_from i log), arrivals-append m.events (history_of log) i)
    (zip-append ArrivedAs _ _ _ _ (cause_arrives eager bodies commands before i (clock_of before) m.cause m.events
    sound.0.made sound.0.stamped)
    (arrivals_announced eager bodies commands (before ++ m ∷ []) log i sound.1))

pub known-push : (before : List LogEntry) (m : LogEntry) (i : ℕ) → known_by (taken_from i (before ++ m ∷ []))
    ≡ fold known_after (known_by (taken_from i before)) (cons_option (taken_of i m.cause) [])
known-push before m i =
    ap (λ (ts : List Taken). known_by ts) (filter_map-append (λ (m : LogEntry). taken_of i m.cause) before (m ∷ []))
    ∙ fold-append known_after nothing_known (taken_from i before) (cons_option (taken_of i m.cause) [])

stream_test : (eager : ℕ) (known : Known) (h : List Event) (from size : ℕ) (worn : Bool) (w : What) (continued : Bool)
    (other : Bool) →
    continued ≡ (worn && cond (is_of_stream w) (continues_stream eager known w size) other) →
    OnTrue (is_of_stream w && worn) (continued ≡ continues_stream eager known w size)
stream_test eager known h from size true (what.Clear n) continued other same = tt
stream_test eager known h from size true (what.Withdrawn n done) continued other same = tt
stream_test eager known h from size true w continued other same = same
stream_test eager known h from size false w continued other same = by_kind (is_of_stream w) where
  by_kind : (b : Bool) → OnTrue (b && false) (continued ≡ continues_stream eager known w size)
  by_kind true = tt
  by_kind false = tt

-- of the packets of a rank's own messages those continued that continue by the packets before
pub stream_is_right : (eager : ℕ) (bodies : Sent → List ℕ) (commands : List Numbered) (before log : List LogEntry)
    (i : ℕ) → EachMomentAfter (MayHappen eager bodies commands) before log →
    StreamIsRight eager (known_by (taken_from i before)) (taken_from i log)
stream_is_right eager bodies commands before [] i sound = tt
stream_is_right eager bodies commands before (m ∷ log) i sound =
    by_cause m.cause sound.0.made
    (subst (λ (known : Known). StreamIsRight eager known (taken_from i log)) (known-push before m i)
    (stream_is_right eager bodies commands (before ++ m ∷ []) log i sound.1))
  where
    by_cause : (c : Cause) → MadeBy eager bodies commands before c m.events →
        StreamIsRight eager (fold known_after (known_by (taken_from i before)) (cons_option (taken_of i c) []))
        (taken_from i log) →
        StreamIsRight eager (known_by (taken_from i before)) (cons_option (taken_of i c) (taken_from i log))
    by_cause Acted made later = later
    by_cause (Drew d) made later = later
    by_cause (Took t) made later = by_source (t.packet.from == i) refl later where
      by_source : (b : Bool) → (t.packet.from == i) ≡ b →
          StreamIsRight eager (fold known_after (known_by (taken_from i before))
          (cons_option (cond b (Some t) None) [])) (taken_from i log) →
          StreamIsRight eager (known_by (taken_from i before)) (cons_option (cond b (Some t) None) (taken_from i log))
      by_source false test later = later
      by_source true test later =
          let same : t.packet.from ≡ i = same_number t.packet.from i test in (
            subst (λ (k : ℕ). OnTrue (is_of_stream t.packet.what && nat_lt t.packet.stamp WORN_STAMP)
                (t.continued ≡ continues_stream eager (known_by (taken_from k before)) t.packet.what
                (length t.packet.payload))) same
                (stream_test eager (known_by (taken_from t.packet.from before)) (history_of before) t.packet.from
                (length t.packet.payload) (nat_lt t.packet.stamp WORN_STAMP) t.packet.what t.continued _ made.0),
            later,
          )
