-- What contracts see of a rank that took a packet.
use Rattle.std.proofs.Common.{◌≡◌, ℕ, ◌+◌, ◌<◌, ◌≤◌, Bool, true, false, List, [], ◌∷◌, ◌++◌, length, refl, sym, ◌∙◌}
use Rattle.std.proofs.Common.{ap, subst, append-nil, arith}
use Rattle.std.specs.Prelude.{map, max, not, if◌then◌else◌, ◌==◌, ◌&&◌, slice_index_or, slice_set, is_some, Option}
use Rattle.std.specs.Prelude.{Some, None, option_map}
use Rattle.std.specs.Option.{option_map_or}
use Rattle.std.proofs.lemmas.List.{map-set, set-get_or}
use Rattle.nm_types.specs.Sizes.{Sizes}
use Rattle.nm_types.specs.declared.messages.Arrival.{Arrival}
use Rattle.nm_types.specs.declared.messages.How.TheVariants as how
use Rattle.nm_types.specs.declared.messages.Post as post
use Rattle.nm_types.specs.declared.packets.Packet.{Packet}
use Rattle.nm_types.specs.declared.packets.What.{What}
use Rattle.nm_types.specs.declared.packets.What.TheVariants as what
use Rattle.nm_history.specs.declared.events.Event.{Event}
use Rattle.nm_history.specs.declared.events.Happened.{Happened}
use Rattle.nm_history.specs.declared.events.Happened.TheVariants as event
use Rattle.nm_history.specs.Matching.{first_receive, matched_pairs, pair_of}
use Rattle.nm_history.specs.Outgoing.{clear_packets, bare}
use Rattle.nm_history.specs.Sends.{Sent, is_ask}
use Rattle.nm_history.specs.Bytes.{bytes_in}
use Rattle.nm_history.specs.Clock.{stamped}
use Rattle.nm_history.specs.Effects.{packet_events, whole_if, is_empty_send, next_arrival}
use Rattle.nm_history.specs.Known.{Known, learned, nothing_known}
use Rattle.nm_rank.specs.Journals.{JournalView}
use Rattle.nm_sending.specs.Outboxes.{OutboxView}
use Rattle.nm_rndv.specs.Offers.{Offering}
use Rattle.nm_request.specs.Requests.{Live, SameRequests}
use Rattle.nm_receiving.specs.StreamViews.{Told, is_done_at_once}
use Rattle.nm_sending.specs.Departures.{SendingView}
use Rattle.nm_sending.specs.Sent.{Puts, only_to}
use Rattle.nm_receiving.specs.Receipts.{AddsBytes, ReceivingView, came_of, of_eager, stream_of}
use Rattle.nm_rank.specs.Calls.{TakesPacket, called_by, offers_by, strays_after, taken_of}
use Rattle.nm_rank.specs.Ranks.{RankView, known_from, count_of, roomless, seen}
use Rattle.nm_rank.specs.Takes.{reply_of}
use Rattle.nm_rank.proofs.ClearLemmas.{swapped, whole-calls}
use Rattle.nm_rank.proofs.PutLemmas.{packet-leaves, puts-none, puts-same}
use Rattle.nm_rank.proofs.TakeLemmas.{known_of, known-at}
use Rattle.nm_rank.proofs.ViewLemmas.{puts-roomless, same-events, same-offers, same-pushed}

-- a rank with more room is seen as the same
pub seen-room : (me : ℕ) (sizes : Sizes) (j j' : JournalView) (s s' : SendingView) (r : ReceivingView)
    (known known' : List Known) (q q' : Live) (took pulled : List ℕ) (strays : ℕ)
    → j' ≡ record j { spare = j'.spare }
    → s' ≡ record s { outbox = record s.outbox { spare = s'.outbox.spare } }
    → SameRequests q q' → known' ≡ known
    → seen me sizes j' s' r known' q' took pulled strays ≡ seen me sizes j s r known q took pulled strays
seen-room me sizes j j' s s' r known known' q q' took pulled strays ej es eq ek =
    let v : RankView = seen me sizes j s r known q took pulled strays in
    let at-j = λ (x : JournalView). seen me sizes x s' r known' q' took pulled strays ≡ v in
    let at-s = λ (x : SendingView). seen me sizes j x r known' q' took pulled strays ≡ v in
    let at-q = λ (x : Live). seen me sizes j s r known' x took pulled strays ≡ v in
    let at-k = λ (x : List Known). seen me sizes j s r x q took pulled strays ≡ v in
    subst at-j (sym ej) (subst at-s (sym es) (subst at-q (sym eq.requests) (subst at-k (sym ek) refl)))

-- what is known of the ranks after one of them was learned of
pub known-set : (xs : List Told) (k : ℕ) (x y z : Told) (w : What) (size : ℕ)
    → k < length xs → x ≡ slice_index_or xs k x → y.known ≡ x.known
    → z.known ≡ learned y.known w size
    → map known_of (slice_set xs k z)
    ≡ slice_set (map known_of xs) k (learned (known_from (map known_of xs) k) w size)
known-set xs k x y z w size low here same goes =
    map-set known_of xs k z
    ∙ ap (λ (u : Known). slice_set (map known_of xs) k u)
    (goes ∙ ap (λ (u : Known). learned u w size) (same ∙ sym (known-at xs k x low here)))

-- what a message calls for where a receive takes it
pair-calls : (t : Option post.Post) (a : Arrival) (stamp to : ℕ) → a.env.how ≡ how.Ask
    → option_map_or (clear_packets to stamp) (option_map (λ p. pair_of p a) t) []
    ≡ (if is_some t then only_to a.env.from stamp (what.Clear a.n) to else [])
pair-calls None a stamp to ask = refl
pair-calls (Some p) a stamp to ask =
    rw ask (swapped (a.env.from == to) true (bare stamp (what.Clear a.n) ∷ []))

eager-calls : (t : Option post.Post) (a : Arrival) (stamp to : ℕ) → a.env.how ≡ how.Eager
    → option_map_or (clear_packets to stamp) (option_map (λ p. pair_of p a) t) [] ≡ []
eager-calls None a stamp to eager = refl
eager-calls (Some p) a stamp to eager = rw eager (swapped (a.env.from == to) false (bare stamp (what.Clear a.n) ∷ []))

out-calls : (bodies : Sent → List ℕ) (to : ℕ) (h : List Event) (b : Bool) (from n c : ℕ)
    → called_by bodies to h (stamped c ((if b then event.Out from n ∷ [] else []) ++ [])) ≡ []
out-calls bodies to h true from n c = refl
out-calls bodies to h false from n c = refl

whole-end : (bodies : Sent → List ℕ) (to : ℕ) (h : List Event) (b : Bool) (from n c : ℕ)
    → called_by bodies to h (stamped c (whole_if b from n ++ [])) ≡ []
whole-end bodies to h b from n c =
    ap (λ (ws : List Happened). called_by bodies to h (stamped c ws)) (append-nil (whole_if b from n))
    ∙ whole-calls bodies to h b from n c

-- what a packet that continues its stream calls for is its answer
pub reply-calls : (bodies : Sent → List ℕ) (known : Known) (h : List Event) (from size c to : ℕ)
    (w : What)
    → called_by bodies to h (stamped c (packet_events known h from w size))
    ≡ reply_of known.count from w (is_done_at_once h from w) (c + 1) to
reply-calls bodies known h from size c to (what.Head tag ctx len) =
    let a : Arrival = next_arrival known from tag ctx len how.Eager in
    rw (
      eager-calls (first_receive h (matched_pairs h) a.env) a (c + 1) to refl,
      whole-end bodies to (h ++ stamped c (event.Arrive a ∷ [])) (len == size) from known.count (c + 1),
    ) refl
reply-calls bodies known h from size c to (what.More n) =
    whole-end bodies to h (known.missing == size) from n c
reply-calls bodies known h from size c to (what.Ask tag ctx len) =
    let a : Arrival = next_arrival known from tag ctx len how.Ask in
    let t = first_receive h (matched_pairs h) a.env in
    rw (
      pair-calls t a (c + 1) to refl,
      whole-calls bodies to (h ++ stamped c (event.Arrive a ∷ [])) (len == 0 && is_some t) from known.count
          (c + 1),
    ) (append-nil (if is_some t then only_to from (c + 1) (what.Clear known.count) to else []))
reply-calls bodies known h from size c to (what.Clear n) =
    out-calls bodies to h (is_empty_send h from n) from n c
reply-calls bodies known h from size c to (what.Withdraw n) =
    append-nil (only_to from (c + 1)
    (what.Withdrawn n (is_done_at_once h from (what.Withdraw n))) to)
reply-calls bodies known h from size c to (what.Withdrawn n done) = refl

-- an answer is put with a clock that is not below that of the event that calls for it
reply-in_time : (known : Known) (h : List Event) (from size start clock n : ℕ) (w : What) (done : Bool)
    (o o' : OutboxView)
    → clock ≡ start + length (packet_events known h from w size)
    → ((called : ℕ) → called ≤ clock → Puts (reply_of n from w done called) None clock o o')
    → Puts (reply_of n from w done (start + 1)) None clock o o'
reply-in_time known h from size start clock n (what.Head tag ctx len) done o o' e puts =
    puts 0 (omega arith)
reply-in_time known h from size start clock n (what.More m) done o o' e puts = puts 0 (omega arith)
reply-in_time known h from size start clock n (what.Ask tag ctx len) done o o' e puts =
    puts (start + 1) (omega arith)
reply-in_time known h from size start clock n (what.Clear m) done o o' e puts = puts 0 (omega arith)
reply-in_time known h from size start clock n (what.Withdraw m) done o o' e puts =
    puts (start + 1) (omega arith)
reply-in_time known h from size start clock n (what.Withdrawn m d) done o o' e puts =
    puts 0 (omega arith)

-- what a rank is that took a packet
pub takes-packet : (me : ℕ) (sizes : Sizes) (j j' j'' : JournalView) (s s' s'' s''' : SendingView)
    (r r' : ReceivingView) (known known' : List Known) (q q' : Live) (took pulled : List ℕ)
    (strays : ℕ) (p : Packet) (ws : List Happened) (done : Bool) (n : ℕ)
    → let v = seen me sizes j s r known q took pulled strays in
    let k = known_from known p.from in
    let start = max j.clock p.stamp in
    j' ≡ record j { spare = j'.spare }
    → s' ≡ record s { outbox = record s.outbox { spare = s'.outbox.spare } }
    → SameRequests q q'
    → (taken_of v p).continued ≡ true
    → ws ≡ packet_events k j.events p.from p.what (length p.payload)
    → done ≡ is_done_at_once j.events p.from p.what
    → n ≡ k.count
    → j''.events ≡ j'.events ++ stamped start ws
    → j''.clock ≡ start + length ws
    → s''.outbox ≡ s'.outbox
    → ((called : ℕ) → called ≤ j''.clock →
    Puts (reply_of n p.from p.what done called) None j''.clock s''.outbox s'''.outbox)
    → s'''.pushed ≡ s'.pushed
    → s'''.offers ≡ offers_by s'.offers p.from p.what
    → ((k : Known) → k.count ≡ (stream_of r p.from).count →
    AddsBytes (of_eager p.from (λ n. bytes_in n k p.what p.payload)) r r')
    → k.count ≡ (stream_of r p.from).count
    → known' ≡ slice_set known p.from (learned k p.what (length p.payload))
    → p.seq ≡ count_of took p.from
    → r'.drawn ≡ r.drawn
    → TakesPacket p v
    (seen me sizes j'' s''' r' known' q' (slice_set took p.from (p.seq + 1)) pulled strays)
takes-packet me sizes j j' j'' s s' s'' s''' r r' known known' q q' took pulled strays p ws done n
    ej es eq cont made at_once count e c outbox puts pushed offers bytes counts knows number drawn =
    let h : j'.events ≡ j.events = same-events j j' ej in
    let start = max j.clock p.stamp in
    let k : Known = known_from known p.from in
    let made_is = packet_events k j.events p.from p.what (length p.payload) in
    let answer = reply-in_time k j.events p.from (length p.payload) start j''.clock n p.what done s''.outbox
    s'''.outbox (c ∙ ap (λ (x : List Happened). start + length x) made) puts in
    record {
      happened = λ bodies. rw cont (record {
        events = rw (← made, ← h) e;
        clock = rw (← made) c;
        packets = rw (packet-leaves k j.events p.from (length p.payload) p.what)
            (puts-roomless _ None j''.clock s s' s''' es
            (puts-same _ _ None j''.clock s'.outbox s'''.outbox
            (λ to. sym (reply-calls bodies k j.events p.from (length p.payload) start to p.what))
            (rw (← outbox, ← count, ← at_once) answer)));
        pushed = pushed ∙ same-pushed s s' es;
      });
      offers = rw cont
          (offers ∙ ap (λ (v : Offering). offers_by v p.from p.what) (same-offers s s' es));
      bytes = rw cont (bytes k counts);
      known = rw cont knows;
      took = ap (λ (x : ℕ). slice_set took p.from (x + 1)) number;
      strays = rw cont refl;
      pulled = refl;
      drawn = drawn;
      requests = ap (λ (x : Live). record x { spare = 0 }) eq.requests;
      me = refl;
      sizes = refl;
    }

-- a stray carries nothing
nothing-of : (from : ℕ) (a : Arrival) → of_eager from (λ n. []) a ≡ []
nothing-of from a = by_test (a.env.from == from && not (is_ask a.env.how)) where
  by_test : (b : Bool) → ◌≡◌ {A = List ℕ} (if b then [] else []) []
  by_test true = refl
  by_test false = refl

-- what a rank is that took a stray
pub takes-stray : (me : ℕ) (sizes : Sizes) (j j' : JournalView) (s : SendingView) (r : ReceivingView)
    (known : List Known) (q : Live) (took pulled : List ℕ) (strays strays' : ℕ) (p : Packet)
    → let v = seen me sizes j s r known q took pulled strays in
    j' ≡ record j { clock = max j.clock p.stamp }
    → (taken_of v p).continued ≡ false → p.seq ≡ count_of took p.from
    → strays' ≡ strays_after false strays
    → TakesPacket p v (seen me sizes j' s r known q (slice_set took p.from (p.seq + 1)) pulled strays')
takes-stray me sizes j j' s r known q took pulled strays strays' p e cont number more = record {
  happened = λ bodies. rw cont (record {
    events = ap (λ (x : JournalView). x.events) e ∙ sym (append-nil j.events);
    clock = let c : j'.clock ≡ max j.clock p.stamp = ap (λ (x : JournalView). x.clock) e in omega arith;
    packets = puts-none _ j'.clock (roomless s).outbox (λ to. refl);
    pushed = refl;
  });
  offers = rw cont refl;
  bytes = λ a. rw cont (sym (ap (λ (l : List ℕ). came_of r a ++ l) (nothing-of p.from a)
      ∙ append-nil (came_of r a)));
  known = rw cont (sym (set-get_or known p.from nothing_known));
  took = ap (λ (x : ℕ). slice_set took p.from (x + 1)) number;
  strays = rw cont more;
  pulled = refl;
  drawn = refl;
  requests = refl;
  me = refl;
  sizes = refl;
}
