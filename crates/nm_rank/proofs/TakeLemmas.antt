-- A packet that was taken and continued its stream.
use Rattle.std.proofs.Common.{◌≡◌, ◌≢◌, ℕ, zero, suc, ◌+◌, ◌<◌, ◌≤◌, true, List, [], ◌∷◌, ◌++◌, length, length-set}
use Rattle.std.proofs.Common.{refl, sym, ◌∙◌, ap, subst, append_assoc, arith}
use Rattle.std.specs.Prelude.{map, slice_index_or, slice_set, option_to_list, Option, Some, None}
use Rattle.std.proofs.Math.Seq.{map-set_same}
use Rattle.std.proofs.lemmas.List.{get_or-set_same, get_or-set_other}
use mathlib.Core.Logic.{dite}
use native.Mathlib.Decide.{ℕ_discrete}
use Rattle.nm_types.specs.Sizes.{Sizes}
use Rattle.nm_types.specs.declared.packets.Packet.{Packet}
use Rattle.nm_types.specs.declared.packets.What.{What}
use Rattle.nm_types.specs.declared.packets.What.TheVariants as what
use Rattle.nm_history.specs.declared.events.Event.{Event}
use Rattle.nm_history.specs.declared.events.Happened.{Happened}
use Rattle.nm_history.specs.Agreement.{Agrees}
use Rattle.nm_history.specs.Clock.{stamped}
use Rattle.nm_history.specs.Continues.{continues}
use Rattle.nm_history.specs.Effects.{happenings, packet_events}
use Rattle.nm_history.specs.Known.{Known, Taken, learned, nothing_known}
use Rattle.nm_history.specs.Rules.{AreRight}
use Rattle.nm_history.proofs.Agreeing.{agrees-packet, agrees-elsewhere}
use Rattle.nm_history.proofs.Growing.{stamped-same}
use Rattle.nm_history.proofs.Right.{right-append}
use Rattle.nm_rank.specs.Journals.{JournalView}
use Rattle.nm_request.specs.Requests.{Live}
use Rattle.nm_receiving.specs.StreamViews.{Told}
use Rattle.nm_sending.specs.Departures.{SendingView}
use Rattle.nm_sending.specs.Sent.{AreSent}
use Rattle.nm_receiving.specs.Receipts.{ReceivingView}
use Rattle.nm_rank.specs.Fields.{AreFields}
use Rattle.nm_rank.specs.Ranks.{known_from, count_of}
use Rattle.nm_rank.specs.Takes.{Accepts, Tells}
use Rattle.nm_sending.specs.Outboxes.{OutboxView}
use Rattle.nm_sending.proofs.TurnLemmas.{numbers_to}
use Rattle.nm_rank.proofs.Goes.{requests-more, sent-outbox}

abbrev pub known_of : Told → Known
known_of s = s.known

-- what is known of a rank where one stream has more room
pub known-same : (xs : List Told) (k : ℕ) (x y : Told) → x ≡ slice_index_or xs k x → y.known ≡ x.known
    → map known_of (slice_set xs k y) ≡ map known_of xs
known-same xs k x y here same = map-set_same known_of xs k y x (same ∙ ap known_of here)

pub known-at : (xs : List Told) (k : ℕ) (x : Told) → k < length xs → x ≡ slice_index_or xs k x
    → known_from (map known_of xs) k ≡ x.known
known-at [] k x low here = absurd (omega arith)
known-at (y ∷ xs) zero x low here = ap known_of (sym here)
known-at (y ∷ xs) (suc k) x low here = known-at xs k x (omega arith) here

-- what happens in two steps
pub stamped-append : (c : ℕ) (xs ys : List Happened)
    → stamped c (xs ++ ys) ≡ stamped c xs ++ stamped (c + length xs) ys
stamped-append c [] ys = ap (λ (k : ℕ). stamped k ys) (omega arith)
stamped-append c (x ∷ xs) ys = ap (λ (k : List Event). record { stamp = c + 1; what = x } ∷ k)
    (stamped-append (c + 1) xs ys ∙ ap (λ (k : ℕ). stamped (c + 1) xs ++ stamped k ys) (omega arith))

pub two-events : (h h' h'' : List Event) (c c' : ℕ) (xs ys : List Happened)
    → h' ≡ h ++ stamped c xs → c' ≡ c + length xs → h'' ≡ h' ++ stamped c' ys
    → h'' ≡ h ++ stamped c (xs ++ ys)
two-events h h' h'' c c' xs ys e d f =
    (rw (e, d) at f) ∙ append_assoc h (stamped c xs) (stamped (c + length xs) ys)
    ∙ ap (λ (k : List Event). h ++ k) (sym (stamped-append c xs ys))

pub at-most-one : (o : Option Happened) → length (option_to_list o) ≤ 1
at-most-one None = omega arith
at-most-one (Some w) = omega arith

-- what is known of the ranks after a packet of one of them
known-here : (known : List Known) (k : ℕ) (x : Known) → k < length known
    → known_from (slice_set known k x) k ≡ x
known-here known k x low = get_or-set_same known k x nothing_known low

known-there : (known : List Known) (k i : ℕ) (x : Known) → i ≢ k
    → known_from (slice_set known k x) i ≡ known_from known i
known-there known k i x ne = get_or-set_other known k i x nothing_known ne

-- what is told of the messages depends on no packets of other sorts
tells-order : (known : Known) (i : ℕ) (s s' : SendingView) (r : ReceivingView)
    → s'.offers.order ≡ s.offers.order → Tells known i s r → Tells known i s' r
tells-order known i s s' r order t = record {
  told = record { count = t.told.count; lacks = t.told.lacks };
  cleared = t.cleared ∙ ap (numbers_to i) (sym order);
}

-- a packet announces one message at most
learned-one : (known : Known) (w : What) (size : ℕ) → (learned known w size).count ≤ known.count + 1
learned-one known (what.Head tag ctx len) size = omega arith
learned-one known (what.More n) size = omega arith
learned-one known (what.Ask tag ctx len) size = omega arith
learned-one known (what.Clear n) size = omega arith
learned-one known (what.Withdraw n) size = omega arith
learned-one known (what.Withdrawn n done) size = omega arith

-- the fields after a packet that continued its stream
pub fields-take : (me : ℕ) (sizes : Sizes) (j j' : JournalView) (s s' s'' : SendingView)
    (r r' : ReceivingView) (known : List Known) (q : Live) (took pulled : List ℕ) (p : Packet)
    (start : ℕ) (ws : List Happened)
    → AreFields me sizes j s r known q took pulled
    → p.from < sizes.ranks → p.seq ≡ count_of took p.from
    → continues sizes.eager (known_from known p.from) j.events p ≡ true
    → ws ≡ packet_events (known_from known p.from) j.events p.from p.what (length p.payload)
    → j'.events ≡ j.events ++ stamped start ws
    → j.clock ≤ j'.clock → s.staying + 2 ≤ j.spare → j.spare ≤ j'.spare + 2
    → Accepts p s s' r r'
    → s'' ≡ record s' { outbox = s''.outbox }
    → s''.outbox.me ≡ s'.outbox.me → s''.outbox.popped ≡ s'.outbox.popped
    → AreFields me sizes j' s'' r'
    (slice_set known p.from (learned (known_from known p.from) p.what (length p.payload)))
    q (slice_set took p.from (p.seq + 1)) pulled
fields-take me sizes j j' s s' s'' r r' known q took pulled p start ws a within number cont made e clock two
    room acc same own popped =
    let h = j.events in
    let es = stamped start ws in
    let k : Known = known_from known p.from in
    let k' : Known = learned k p.what (length p.payload) in
    let known' : List Known = slice_set known p.from k' in
    let low : p.from < length known = rw a.peers.streams within in
    let tells : Tells k p.from s r = record {
      told = record { count = a.told.counts p.from within; lacks = a.told.missing p.from within };
      cleared = a.told.cleared p.from within;
    } in
    let happened_is : happenings es ≡ packet_events k h p.from p.what (length p.payload) =
    stamped-same start ws ∙ made in
    let cont' = subst (λ (z : Sizes). continues z.eager k h p ≡ true) (sym a.peers.shape) cont in
    let right = subst (λ (z : Sizes). AreRight z.ranks [] h) (sym a.peers.shape) a.history.right in
    let g = acc.kept h es k (a.history.agrees p.from within) tells cont' happened_is a.history.sent
    a.history.received right in
    let t : Taken = record { packet = p; continued = true } in
    let tells' : Tells k' p.from s' r' = acc.tells h k tells cont' in
    let order : s''.offers.order ≡ s'.offers.order = ap (λ (u : SendingView). u.offers.order) same in
    let stay : s''.staying ≡ s'.staying = ap (λ (u : SendingView). u.staying) same in
    let each : (i : ℕ) → i < sizes.ranks → Tells (known_from known' i) i s'' r' =
    λ i b. dite (ℕ_discrete i p.from)
    (λ same. subst (λ (m : ℕ). Tells (known_from known' m) m s'' r') (sym same)
    (rw (known-here known p.from k' low) (tells-order k' p.from s' s'' r' order tells')))
    (λ ne. rw (known-there known p.from i k' ne)
    (tells-order (known_from known i) i s' s'' r' order
    (acc.others i (known_from known i) ne (record {
      told = record { count = a.told.counts i b; lacks = a.told.missing i b };
      cleared = a.told.cleared i b;
    })))) in
    record {
      history = rw e (record {
        right = right-append sizes.ranks [] h es a.history.right
            (subst (λ (z : Sizes). AreRight z.ranks h es) a.peers.shape g.2);
        sent = subst (λ (u : SendingView). AreSent u (h ++ es)) (sym same)
            (sent-outbox s' s''.outbox (h ++ es) g.0);
        received = g.1;
        agrees = λ i b. dite (ℕ_discrete i p.from)
            (λ same. subst (λ (m : ℕ). Agrees m (h ++ es) (known_from known' m)) (sym same)
            (rw (known-here known p.from k' low)
            (agrees-packet p.from h es k t refl happened_is (a.history.agrees p.from within))))
            (λ ne. rw (known-there known p.from i k' ne)
            (agrees-elsewhere i h es (known_from known i) k t (λ same. ne (sym same)) happened_is
            (a.history.agrees i b)));
      });
      peers = record {
        shape = acc.sizes ∙ a.peers.shape;
        own = own ∙ ap (λ (o : OutboxView). o.me) acc.outbox ∙ a.peers.own;
        within = a.peers.within;
        to = ap length popped ∙ ap (λ (o : OutboxView). length o.popped) acc.outbox ∙ a.peers.to;
        streams = length-set known p.from k' ∙ a.peers.streams;
        packets = length-set took p.from (p.seq + 1) ∙ a.peers.packets;
        pieces = a.peers.pieces;
      };
      told = record {
        counts = λ i b. (each i b).told.count;
        missing = λ i b. (each i b).told.lacks;
        cleared = λ i b. (each i b).cleared;
        few = λ i b. dite (ℕ_discrete i p.from)
            (λ same. subst (λ (m : ℕ). (known_from known' m).count
            ≤ count_of (slice_set took p.from (p.seq + 1)) m) (sym same)
            (rw (
              known-here known p.from k' low,
              get_or-set_same took p.from (p.seq + 1) 0 (rw a.peers.packets within),
            )
            (let one = learned-one k p.what (length p.payload) in
            let few = a.told.few p.from within in omega arith)))
            (λ ne. rw (known-there known p.from i k' ne, get_or-set_other took p.from i (p.seq + 1) 0 ne)
            (a.told.few i b));
        drawn = λ i b. rw acc.drawn (a.told.drawn i b);
      };
      requests = rw e (requests-more sizes.ranks q h es r r' acc.ended a.requests);
      room = record {
        events = let fewer = acc.fewer in omega arith;
        few = let fewer = acc.fewer in let few = a.room.few in omega arith;
      };
    }
