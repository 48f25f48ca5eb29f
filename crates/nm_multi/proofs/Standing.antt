-- What one moment more leaves of the past of a rank that has only itself to send to.
use Rattle.std.proofs.Common.{◌≡◌, ℕ, ◌+◌, ◌==◌, Bool, true, false, cond, Option, None, Some, List, [], ◌∷◌, ◌++◌}
use Rattle.std.proofs.Common.{length, map}
use Rattle.std.proofs.Common.{refl, ◌∙◌, ap, append-nil}
use Rattle.std.specs.List.{AllByRecursion, cons_option}
use Rattle.std.proofs.lemmas.List.{map-append}
use Rattle.std.proofs.lemmas.List.Elements.{filter_map-append}
use Rattle.nm_types.specs.declared.messages.Arrival.{Arrival}
use Rattle.nm_types.specs.declared.packets.Packet.{Packet}
use Rattle.nm_types.specs.declared.packets.What.{What}
use Rattle.nm_types.specs.declared.packets.What.TheVariants as what
use Rattle.nm_types.specs.declared.scripts.Body.{Body}
use Rattle.nm_history.specs.declared.events.Event.{Event}
use Rattle.nm_history.specs.declared.events.Happened.{Happened}
use Rattle.nm_history.specs.declared.events.Happened.TheVariants.{Out, Recall}
use Rattle.nm_history.specs.Happens.{happened, is_recall}
use Rattle.nm_history.specs.Sends.{Sent, sends, sent_of}
use Rattle.nm_history.specs.Clock.{stamped}
use Rattle.nm_history.specs.Effects.{is_empty_send, packet_events, whole_if}
use Rattle.nm_history.specs.Known.{Known, Taken}
use Rattle.nm_request.specs.declared.Kind.{Kind}
use Rattle.nm_request.specs.declared.Kind.TheVariants as kind
use Rattle.nm_sending.specs.Sent.{outs}
use Rattle.nm_receiving.specs.Receipts.{is_empty_ask, taken_events}
use Rattle.nm_rank.specs.Calls.{made_of}
use Rattle.nm_rank.specs.Calls.{taken_of as taken_here}
use Rattle.nm_rank.specs.Ranks.{IsFresh, RankView, known_from}
use Rattle.nm_rank.specs.Requests.{cancel_events}
use Rattle.nm_channels.specs.Moments.{LogEntry, pulled_from, pulled_of, taken_from, taken_of}
use Rattle.nm_channels.proofs.BytesCame.{pulled_around, taken_around}
use Rattle.nm_global.specs.Moments.{acted, took}
use Rattle.nm_global.specs.Emitted.{Emitted, with_packet}
use Rattle.nm_global.specs.ProcessInvariant.{with_moment}
use Rattle.nm_global.specs.Steps.{IsPlaced}
use Rattle.nm_multi.specs.Standing.{AreBodies, DeskInvariant, alone_run}
use Rattle.nm_types.proofs.NumberLemmas.{eq_true}
use Rattle.nm_types.proofs.ListLemmas.{all_append}
use Rattle.nm_history.proofs.AppendLemmas.{sends-append}

-- a moment of the rank's own takes no packet and no piece
pub taken_still : (log : List LogEntry) (v : RankView) (ws : List Happened) →
    taken_from 0 (log ++ acted v ws ∷ []) ≡ taken_from 0 log
taken_still log v ws = taken_around 0 log (acted v ws) [] refl ∙ append-nil (taken_from 0 log)

pub pulled_still : (log : List LogEntry) (v : RankView) (ws : List Happened) →
    pulled_from 0 (log ++ acted v ws ∷ []) ≡ pulled_from 0 log
pulled_still log v ws = pulled_around 0 log (acted v ws) [] refl ∙ append-nil (pulled_from 0 log)

-- a packet of its own that the rank takes
pub taken_more : (log : List LogEntry) (v : RankView) (p : Packet) → p.from ≡ 0 →
    map (λ t. t.packet) (taken_from 0 (log ++ took v p ∷ []))
    ≡ map (λ t. t.packet) (taken_from 0 log) ++ p ∷ []
taken_more log v p own =
    ap (λ (ts : List Taken). map (λ t. t.packet) ts)
    (filter_map-append (λ (m : LogEntry). taken_of 0 m.cause) log (took v p ∷ [])
    ∙ ap (λ (b : Bool). taken_from 0 log ++ cons_option (cond b (Some (taken_here v p)) None) [])
    (eq_true p.from 0 own))
    ∙ map-append (λ (t : Taken). t.packet) (taken_from 0 log) (taken_here v p ∷ [])

pub pulled_more : (log : List LogEntry) (v : RankView) (p : Packet) →
    pulled_from 0 (log ++ took v p ∷ []) ≡ pulled_from 0 log
pulled_more log v p =
    filter_map-append (λ (m : LogEntry). pulled_of 0 m.cause) log (took v p ∷ [])
    ∙ append-nil (pulled_from 0 log)

-- what happens is no send
abbrev pub SendsNone : Happened → Type 0
SendsNone w = (stamp : ℕ) → sent_of stamp w ≡ None

none_sent : (start to : ℕ) (ws : List Happened) → AllByRecursion SendsNone ws →
    sends (stamped start ws) to ≡ []
none_sent start to [] each = refl
none_sent start to (w ∷ ws) each = rw (each.0 (start + 1)) (none_sent (start + 1) to ws each.1)

-- then as many messages were sent as before
pub sent_still : (v v' : RankView) (start : ℕ) (ws : List Happened) → AllByRecursion SendsNone ws →
    v'.events ≡ v.events ++ stamped start ws → length (sends v'.events 0) ≡ length (sends v.events 0)
sent_still v v' start ws each grown =
    ap (λ (h : List Event). length (sends h 0)) grown
    ∙ ap (λ (ss : List Sent). length ss) (sends-append v.events (stamped start ws) 0)
    ∙ ap (λ (ss : List Sent). length (sends v.events 0 ++ ss)) (none_sent start 0 ws each)
    ∙ ap (λ (ss : List Sent). length ss) (append-nil (sends v.events 0))

whole_none : (b : Bool) (from n : ℕ) → AllByRecursion SendsNone (whole_if b from n)
whole_none true from n = (λ stamp. refl, tt)
whole_none false from n = tt

pub receive_none : (o : Option Arrival) → AllByRecursion SendsNone (taken_events o)
receive_none None = tt
receive_none (Some a) = whole_none (is_empty_ask a) a.env.from a.n

pub outs_none : (o : Option (ℕ × ℕ)) → AllByRecursion SendsNone (outs o)
outs_none None = tt
outs_none (Some m) = (λ stamp. refl, tt)

pub cancel_none : (h : List Event) (k : Kind) → AllByRecursion SendsNone (cancel_events h k)
cancel_none h (kind.Receive number) = (λ stamp. refl, tt)
cancel_none h (kind.Send to n) = by (happened (is_recall to n) h) where
  by : (b : Bool) → AllByRecursion SendsNone (cond b [] (Recall to n ∷ []))
  by true = tt
  by false = (λ stamp. refl, tt)

packet_none : (known : Known) (h : List Event) (from size : ℕ) (w : What) →
    AllByRecursion SendsNone (packet_events known h from w size)
packet_none known h from size (what.Head tag ctx len) =
    (λ stamp. refl, all_append SendsNone _ [] (whole_none (len == size) from known.count) tt)
packet_none known h from size (what.More m) =
    all_append SendsNone _ [] (whole_none (known.missing == size) from m) tt
packet_none known h from size (what.Ask tag ctx len) = (λ stamp. refl, whole_none _ from known.count)
packet_none known h from size (what.Clear m) = all_append SendsNone _ [] (by (is_empty_send h from m)) tt
  where
    by : (b : Bool) → AllByRecursion SendsNone (cond b (Out from m ∷ []) [])
    by true = (λ stamp. refl, tt)
    by false = tt
packet_none known h from size (what.Withdraw m) = (λ stamp. refl, tt)
packet_none known h from size (what.Withdrawn m done) = (λ stamp. refl, tt)

pub made_none : (v : RankView) (p : Packet) → AllByRecursion SendsNone (made_of v p)
made_none v p = by (taken_here v p).continued where
  by : (b : Bool) → AllByRecursion SendsNone
      (cond b (packet_events (known_from v.known p.from) v.events p.from p.what (length p.payload)) [])
  by true = packet_none (known_from v.known p.from) v.events p.from (length p.payload) p.what
  by false = tt

-- a rank stands where one moment of its own is added, by which nothing leaves
pub acted_on : (sent sent' : List Body) (v v' : RankView) (st : DeskInvariant sent v) (ws : List Happened) →
    IsFresh v → length (sends v'.events 0) ≡ length sent' →
    ((bodies : Sent → List ℕ) → AreBodies bodies sent' →
    IsPlaced (alone_run st.eager bodies) v' (with_moment st.past (acted v ws))) → DeskInvariant sent' v'
acted_on sent sent' v v' st ws fresh many placed =
    record {
      eager = st.eager;
      past = with_moment st.past (acted v ws);
      placed = placed;
      many = many;
      even = λ _. ap (λ (ts : List Taken). map (λ t. t.packet) ts) (taken_still st.past.log v ws)
          ∙ st.even fresh;
      pieces = pulled_still st.past.log v ws ∙ st.pieces;
    }

-- what left for the rank itself, after one packet more
pub left_more : (to : ℕ) (p : Packet) (left : Emitted) → to ≡ 0 →
    (with_packet 0 (to, p) left).packets ≡ left.packets ++ p ∷ []
left_more to p left own =
    ap (λ (b : Bool). (cond b (record left { packets = left.packets ++ p ∷ [] }) left).packets)
    (eq_true to 0 own)
