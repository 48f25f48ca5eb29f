-- A message that is over by the packets that came so far has its body, where these and those that are
-- still to come are called for.
use Rattle.std.proofs.Common.{◌≡◌, ℕ, ◌+◌, ◌<◌, ◌==◌, Bool, true, false, cond, Some, List, [], ◌∷◌, ◌++◌, length, map}
use Rattle.std.proofs.Common.{refl, sym, ◌∙◌, ap, subst, append-nil, arith, true≢false}
use Rattle.std.specs.Prelude.{fold}
use Rattle.std.specs.Bool.{OnTrue}
use Rattle.std.specs.List.{AllByRecursion, slice_get}
use Rattle.std.proofs.lemmas.List.{map-append}
use Rattle.nm_types.specs.declared.packets.Packet.{Packet}
use Rattle.nm_types.specs.declared.packets.What.{What}
use Rattle.nm_types.specs.declared.packets.What.TheVariants as what
use Rattle.nm_history.specs.declared.events.Event.{Event}
use Rattle.nm_history.specs.AtEach.{AtEach, in_turn}
use Rattle.nm_history.specs.Outgoing.{AreCalled, outgoing}
use Rattle.nm_history.specs.Sends.{Sent, is_ask, sends}
use Rattle.nm_history.specs.Bytes.{bytes_in, eager_bytes}
use Rattle.nm_history.specs.Continues.{WORN_STAMP, continues_stream, is_of_stream}
use Rattle.nm_history.specs.Known.{Known, Taken, known_after, known_by, learned, nothing_known}
use Rattle.nm_history.proofs.Sent.{NumberedFrom}
use Rattle.nm_channels.proofs.Delivering.{all_go}
use Rattle.nm_channels.proofs.EagerBytes.{eager_all, eager_body_at, eager_bytes-append, none_after_complete}
use Rattle.nm_channels.proofs.Streaming.{Carries, InTime}
use Rattle.nm_channels.proofs.Streams.{SenderAt, StreamContinued, StreamIsRight}
use Rattle.nm_channels.specs.SoFar.{IsOver}
use Rattle.nm_types.proofs.ListLemmas.{all_append}

-- these packets as they would be taken
abbrev would : ℕ → Known → List Packet → List Taken
would eager known [] = []
would eager known (p ∷ ps) =
    record { packet = p; continued = continues_stream eager known p.what (length p.payload) }
    ∷ would eager
    (known_after known (record { packet = p; continued = continues_stream eager known p.what (length p.payload) })) ps

would_packets : (eager : ℕ) (known : Known) (ps : List Packet) → map (λ t. t.packet) (would eager known ps) ≡ ps
would_packets eager known [] = refl
would_packets eager known (p ∷ ps) =
    ap (λ (qs : List Packet). p ∷ qs) (would_packets eager
    (known_after known (record { packet = p; continued = continues_stream eager known p.what (length p.payload) })) ps)

on_any : (b : Bool) (P : Type 0) → P → OnTrue b P
on_any true P is = is
on_any false P is = tt

would_right : (eager : ℕ) (known : Known) (ps : List Packet) → StreamIsRight eager known (would eager known ps)
would_right eager known [] = tt
would_right eager known (p ∷ ps) = (
  on_any _ _ refl,
  would_right eager
      (known_after known (record { packet = p; continued = continues_stream eager known p.what (length p.payload) }))
      ps,
)

would_in_time : (eager : ℕ) (known : Known) (ps : List Packet) → AllByRecursion (λ p. p.stamp < WORN_STAMP) ps →
    InTime (would eager known ps)
would_in_time eager known [] in_time = tt
would_in_time eager known (p ∷ ps) in_time = (
  in_time.0,
  would_in_time eager
      (known_after known (record { packet = p; continued = continues_stream eager known p.what (length p.payload) }))
      ps in_time.1,
)

right_append : (eager : ℕ) (known : Known) (ts more : List Taken) → StreamIsRight eager known ts →
    StreamIsRight eager (fold known_after known ts) more → StreamIsRight eager known (ts ++ more)
right_append eager known [] more first rest = rest
right_append eager known (t ∷ ts) more first rest =
    (first.0, right_append eager (known_after known t) ts more first.1 rest)

-- the same packet, as one that continued
abbrev pub continuing : Taken → Taken
continuing t = record t { continued = true }

-- a packet of the sender's own messages that continued tells and carries the same; any other carries
-- nothing, and announces nothing
pub same_step : (n : ℕ) (known known' : Known) (b : Bool) (w : What) (payload : List ℕ) (size : ℕ) →
    known.count ≡ known'.count → OnTrue (is_of_stream w) (b ≡ true) →
    (cond b (bytes_in n known w payload) [] ≡ bytes_in n known' w payload)
    × ((cond b (learned known w size) known).count ≡ (learned known' w size).count)
same_step n known known' true (what.Head tag ctx len) payload size same goes =
    (ap (λ (k : ℕ). cond (k == n) payload []) same, ap (λ (k : ℕ). k + 1) same)
same_step n known known' true (what.More m) payload size same goes = (refl, same)
same_step n known known' true (what.Ask tag ctx len) payload size same goes = (refl, ap (λ (k : ℕ). k + 1) same)
same_step n known known' true (what.Clear m) payload size same goes = (refl, same)
same_step n known known' true (what.Withdraw m) payload size same goes = (refl, same)
same_step n known known' true (what.Withdrawn m done) payload size same goes = (refl, same)
same_step n known known' false (what.Head tag ctx len) payload size same goes = absurd (true≢false (sym goes))
same_step n known known' false (what.More m) payload size same goes = absurd (true≢false (sym goes))
same_step n known known' false (what.Ask tag ctx len) payload size same goes = absurd (true≢false (sym goes))
same_step n known known' false (what.Clear m) payload size same goes = (refl, same)
same_step n known known' false (what.Withdraw m) payload size same goes = absurd (true≢false (sym goes))
same_step n known known' false (what.Withdrawn m done) payload size same goes = (refl, same)

pub same_bytes : (n : ℕ) (known known' : Known) (ts : List Taken) → known.count ≡ known'.count →
    AllByRecursion StreamContinued ts → eager_bytes n known ts ≡ eager_bytes n known' (map continuing ts)
same_bytes n known known' [] same goes = refl
same_bytes n known known' (t ∷ ts) same goes =
    let size : ℕ = length t.packet.payload in
    let step = same_step n known known' t.continued t.packet.what t.packet.payload size same goes.0 in
    ap (λ (xs : List ℕ). xs ++ eager_bytes n (known_after known t) ts) step.0
    ∙ ap (λ (xs : List ℕ). bytes_in n known' t.packet.what t.packet.payload ++ xs)
    (same_bytes n (known_after known t) (learned known' t.packet.what size) ts step.1 goes.1)

pub continuing_packets : (ts : List Taken) →
    map (λ t. t.packet) (map continuing ts) ≡ map (λ t. t.packet) ts
continuing_packets [] = refl
continuing_packets (t ∷ ts) = ap (λ (ps : List Packet). t.packet ∷ ps) (continuing_packets ts)

pub continuing_go : (ts : List Taken) → AllByRecursion (λ t. t.continued ≡ true) (map continuing ts)
continuing_go [] = tt
continuing_go (t ∷ ts) = (refl, continuing_go ts)

pub so_far : (eager i j n : ℕ) (bodies : Sent → List ℕ) (h : List Event) (ts : List Taken) (more : List Packet)
    (s : Sent) → AtEach (λ before e. SenderAt eager bodies before e.stamp e.what) h →
    AreCalled i 0 (outgoing bodies h j) (map (λ t. t.packet) ts ++ more) → InTime ts →
    AllByRecursion (λ p. p.stamp < WORN_STAMP) more → StreamIsRight eager nothing_known ts →
    IsOver n (known_by ts) → NumberedFrom (λ (s : Sent). s.n) 0 (sends h j) →
    slice_get (sends h j) n ≡ Some s → is_ask s.how ≡ false → eager_bytes n nothing_known ts ≡ bodies s
unfolding AtEach in_turn
so_far eager i j n bodies h ts more s each called in_time more_in_time right complete numbered at is =
    let later : List Taken = would eager (known_by ts) more in
    let full : List Taken = ts ++ later in
    let same : map (λ t. t.packet) full ≡ map (λ t. t.packet) ts ++ more =
    map-append (λ (t : Taken). t.packet) ts later
    ∙ ap (λ (ps : List Packet). map (λ t. t.packet) ts ++ ps) (would_packets eager (known_by ts) more) in
    let carries : Carries i 0 (outgoing bodies h j) full =
    subst (λ (ps : List Packet). AreCalled i 0 (outgoing bodies h j) ps) (sym same) called in
    let times = would_in_time eager (known_by ts) more more_in_time in
    let late_right = would_right eager (known_by ts) more in
    let goes = all_go eager i j bodies [] h 0 nothing_known full [] each
    (record { counted = refl; finished = refl; same = refl }) (λ n. refl) carries
    (all_append (λ (t : Taken). t.packet.stamp < WORN_STAMP) ts later in_time times)
    (right_append eager nothing_known ts later right late_right) in
    let none = none_after_complete eager n (known_by ts) later times late_right complete in
    let split = eager_bytes-append n nothing_known ts later in
    let all = eager_all eager i n j bodies h (map continuing full) each
    (subst (λ (ps : List Packet). AreCalled i 0 (outgoing bodies h j) ps) (sym (continuing_packets full)) carries)
    (continuing_go full) in
    sym (split ∙ ap (λ (xs : List ℕ). eager_bytes n nothing_known ts ++ xs) none
    ∙ append-nil (eager_bytes n nothing_known ts))
    ∙ same_bytes n nothing_known nothing_known full refl goes.0 ∙ all
    ∙ eager_body_at bodies 0 n n (sends h j) s (omega arith) numbered at is
