-- What came so far of what a rank sends to itself, where more is still to come: as if it took that next.
use Rattle.std.proofs.Common.{◌≡◌, ℕ, ◌+◌, ◌<◌, max, false, Some, List, [], ◌∷◌, ◌++◌, map, refl, sym}
use Rattle.std.proofs.Common.{◌∙◌, ap, subst, append-nil, append_assoc, arith}
use Rattle.std.specs.Prelude.{slice_get}
use Rattle.std.specs.List.{AllByRecursion}
use Rattle.std.proofs.lemmas.List.{map-append}
use Rattle.std.proofs.lemmas.List.Elements.{filter_map-append}
use Rattle.nm_types.specs.declared.packets.Packet.{Packet}
use Rattle.nm_history.specs.declared.events.Event.{Event}
use Rattle.nm_history.specs.AtEach.{AtEach}
use Rattle.nm_history.specs.Delivery.{ArriveInOrder}
use Rattle.nm_history.specs.Outgoing.{AreCalled, Called, outgoing}
use Rattle.nm_history.specs.Sends.{Arrived, Sent, arrivals, is_ask, sends}
use Rattle.nm_history.specs.Bytes.{eager_bytes}
use Rattle.nm_history.specs.Clock.{stamped}
use Rattle.nm_history.specs.Continues.{WORN_STAMP, continues}
use Rattle.nm_history.specs.Effects.{taken_events}
use Rattle.nm_history.specs.Known.{Known, Taken, known_by, nothing_known}
use Rattle.nm_history.specs.Rules.{AreRight}
use Rattle.nm_history.proofs.Growing.{stamped-follow, stamped-same}
use Rattle.nm_history.proofs.Right.{right-numbers}
use Rattle.nm_history.proofs.Sent.{sends_numbered}
use Rattle.nm_channels.specs.Moments.{LogEntry, clock_of, history_of, taken_from, taken_of}
use Rattle.nm_channels.specs.Moments.Cause.{Took}
use Rattle.nm_channels.specs.Sound.{AreSound, MayHappen}
use Rattle.nm_channels.proofs.Delivering.{history-append, sender_right, stream_arrives}
use Rattle.nm_channels.proofs.EagerBytes.{eager_all, eager_body_at, eager_bytes-append}
use Rattle.nm_channels.proofs.Logs.{sound-push}
use Rattle.nm_channels.proofs.Streaming.{Carries, InTime}
use Rattle.nm_types.proofs.NumberLemmas.{eq_true}
use Rattle.nm_channels.proofs.SoFar.{same_bytes, continuing_packets, continuing_go, continuing}
use Rattle.nm_history.proofs.AppendLemmas.{arrivals-append}

-- the moment of a rank that takes this packet next
abbrev next : ℕ → List LogEntry → Packet → LogEntry
next eager log p =
    let known : Known = known_by (taken_from p.from log) in
    let t : Taken = record { packet = p; continued = continues eager known (history_of log) p } in
    record {
      cause = Took t;
      events = stamped (max (clock_of log) p.stamp) (taken_events known (history_of log) t);
    }

-- the moments of one that takes these next
abbrev future : ℕ → List LogEntry → List Packet → List LogEntry
future eager log [] = []
future eager log (p ∷ ps) = next eager log p ∷ future eager (log ++ next eager log p ∷ []) ps

next_may : (eager : ℕ) (bodies : Sent → List ℕ) (log : List LogEntry) (p : Packet) →
    MayHappen eager bodies [] log (next eager log p)
next_may eager bodies log p =
    record {
      made = (refl, stamped-same (max (clock_of log) p.stamp) _);
      stamped = stamped-follow (max (clock_of log) p.stamp) _;
    }

future_sound : (eager : ℕ) (bodies : Sent → List ℕ) (log : List LogEntry) (ps : List Packet) →
    AreSound eager bodies [] log → AreSound eager bodies [] (log ++ future eager log ps)
future_sound eager bodies log [] sound =
    subst (λ (l : List LogEntry). AreSound eager bodies [] l) (sym (append-nil log)) sound
future_sound eager bodies log (p ∷ ps) sound =
    let m : LogEntry = next eager log p in
    subst (λ (l : List LogEntry). AreSound eager bodies [] l)
    (append_assoc log (m ∷ []) (future eager (log ++ m ∷ []) ps))
    (future_sound eager bodies (log ++ m ∷ []) ps
    (sound-push eager bodies [] log m sound (next_may eager bodies log p)))

future_taken : (eager : ℕ) (log : List LogEntry) (ps : List Packet) → AllByRecursion (λ p. p.from ≡ 0) ps →
    map (λ t. t.packet) (taken_from 0 (future eager log ps)) ≡ ps
future_taken eager log [] own = refl
future_taken eager log (p ∷ ps) own =
    rw (eq_true p.from 0 own.0)
    (ap (λ (qs : List Packet). p ∷ qs) (future_taken eager (log ++ next eager log p ∷ []) ps own.1))

-- the packets that are called for are the rank's own
called_own : (k : ℕ) (cs : List Called) (xs ps : List Packet) → AreCalled 0 k cs (xs ++ ps) →
    AllByRecursion (λ p. p.from ≡ 0) ps
called_own k [] [] [] called = tt
called_own k [] [] (p ∷ ps) called = absurd called
called_own k (c ∷ cs) [] [] called = tt
called_own k (c ∷ cs) [] (p ∷ ps) called = (called.0.sender, called_own (k + 1) cs [] ps called.1)
called_own k [] (x ∷ xs) ps called = absurd called
called_own k (c ∷ cs) (x ∷ xs) ps called = called_own (k + 1) cs xs ps called.1

times : (ts : List Taken) → AllByRecursion (λ p. p.stamp < WORN_STAMP) (map (λ t. t.packet) ts) → InTime ts
times [] early = tt
times (t ∷ ts) early = (early.0, times ts early.1)

order_front : (ss : List Sent) (as' more : List Arrived) → ArriveInOrder 0 ss (as' ++ more) →
    ArriveInOrder 0 ss as'
order_front ss [] more is = tt
order_front [] (a ∷ as') more is = absurd is
order_front (s ∷ ss) (a ∷ as') more is = (is.0, is.1, order_front ss as' more is.2)

-- The messages that came are the first of those that were sent, and the bytes of an eager one that came
-- are the first of its body.
pub record CameSoFar (bodies : Sent → List ℕ) (log : List LogEntry) : Type 0 where
  pub in_order : ArriveInOrder 0 (sends (history_of log) 0) (arrivals (history_of log) 0)
  pub bytes :
      (n : ℕ) (s : Sent) → slice_get (sends (history_of log) 0) n ≡ Some s → is_ask s.how ≡ false →
      (rest : List ℕ) × (eager_bytes n nothing_known (taken_from 0 log) ++ rest ≡ bodies s)

-- what came, and then what is to come
whole_taken : (eager : ℕ) (log : List LogEntry) (more : List Packet) → AllByRecursion (λ p. p.from ≡ 0) more →
    map (λ t. t.packet) (taken_from 0 (log ++ future eager log more))
    ≡ map (λ t. t.packet) (taken_from 0 log) ++ more
whole_taken eager log more own =
    ap (λ (ts : List Taken). map (λ t. t.packet) ts)
    (filter_map-append (λ (m : LogEntry). taken_of 0 m.cause) log (future eager log more))
    ∙ map-append (λ (t : Taken). t.packet) (taken_from 0 log) (taken_from 0 (future eager log more))
    ∙ ap (λ (ps : List Packet). map (λ t. t.packet) (taken_from 0 log) ++ ps) (future_taken eager log more own)

pub came_so_far : (eager ranks : ℕ) (bodies : Sent → List ℕ) (log : List LogEntry) (more : List Packet) →
    AreSound eager bodies [] log → AreRight ranks [] (history_of log) →
    AreCalled 0 0 (outgoing bodies (history_of log) 0) (map (λ t. t.packet) (taken_from 0 log) ++ more) →
    AllByRecursion (λ p. p.stamp < WORN_STAMP) (map (λ t. t.packet) (taken_from 0 log) ++ more) →
    CameSoFar bodies log
unfolding AtEach
came_so_far eager ranks bodies log more sound right called early =
    let h : List Event = history_of log in
    let full : List Taken = taken_from 0 (log ++ future eager log more) in
    let same = whole_taken eager log more (called_own 0 (outgoing bodies h 0) _ more called) in
    let carries : Carries 0 0 (outgoing bodies h 0) full =
    subst (λ (ps : List Packet). AreCalled 0 0 (outgoing bodies h 0) ps) (sym same) called in
    let each = sender_right eager ranks bodies [] log sound right in
    let goes = stream_arrives eager 0 0 bodies bodies [] h (log ++ future eager log more) each
    (future_sound eager bodies log more sound) carries
    (times full (subst (λ (ps : List Packet). AllByRecursion (λ p. p.stamp < WORN_STAMP) ps) (sym same) early)) in
    let came : arrivals (history_of (log ++ future eager log more)) 0
    ≡ arrivals h 0 ++ arrivals (history_of (future eager log more)) 0 =
    ap (λ (k : List Event). arrivals k 0) (history-append log (future eager log more))
    ∙ arrivals-append h (history_of (future eager log more)) 0 in
    record {
      in_order = order_front (sends h 0) (arrivals h 0) (arrivals (history_of (future eager log more)) 0)
          (subst (λ (as' : List Arrived). ArriveInOrder 0 (sends h 0) as') came goes.1);
      bytes = λ n s at is. (
        eager_bytes n (known_by (taken_from 0 log)) (taken_from 0 (future eager log more)),
        sym (eager_bytes-append n nothing_known (taken_from 0 log) (taken_from 0 (future eager log more)))
            ∙ ap (λ (ts : List Taken). eager_bytes n nothing_known ts)
            (sym (filter_map-append (λ (m : LogEntry). taken_of 0 m.cause) log (future eager log more)))
            ∙ same_bytes n nothing_known nothing_known full refl goes.0
            ∙ eager_all eager 0 n 0 bodies h (map continuing full) each
            (subst (λ (ps : List Packet). AreCalled 0 0 (outgoing bodies h 0) ps) (sym (continuing_packets full))
            carries)
            (continuing_go full)
            ∙ eager_body_at bodies 0 n n (sends h 0) s (omega arith)
            (sends_numbered ranks 0 h (right-numbers ranks h right)) at is,
      );
    }
