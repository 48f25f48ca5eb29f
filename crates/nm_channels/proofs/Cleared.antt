-- No clearance is a stray: what the receiver paired, the sender had sent by asking.
use Rattle.std.proofs.Common.{◌≡◌, ℕ, ◌+◌, ◌<◌, ◌≤◌, ◌==◌, true, ◌&&◌, Option, Some, List, [], ◌∷◌, ◌++◌, refl, sym}
use Rattle.std.proofs.Common.{◌∙◌, ap, subst, append_assoc, arith}
use Rattle.std.specs.List.{AllByRecursion}
use Rattle.std.specs.Option.{option_to_list}
use Rattle.nm_types.specs.declared.messages.Arrival.{Arrival}
use Rattle.nm_types.specs.declared.packets.What.{What}
use Rattle.nm_types.specs.declared.packets.What.TheVariants as what
use Rattle.nm_history.specs.declared.events.Event.{Event}
use Rattle.nm_history.specs.declared.plain.Pair.{Pair}
use Rattle.nm_history.specs.AtEach.{AtEach}
use Rattle.nm_history.specs.Sends.{Sent, sends, is_ask, Arrived, arrivals}
use Rattle.nm_history.specs.Happens.{happened, is_asked_send}
use Rattle.nm_history.specs.Matching.{matched_pairs, new_pair}
use Rattle.nm_history.specs.Delivery.{earlier_than}
use Rattle.nm_history.specs.RankRun.{StampAt}
use Rattle.nm_history.proofs.MatchingLemmas.{matched_pairs-push}
use Rattle.nm_history.specs.Known.{Taken}
use Rattle.nm_history.specs.Continues.{is_of_stream}
use Rattle.nm_history.proofs.Basic.{by-both}
use Rattle.nm_channels.proofs.Numbers.{SentAs, SentBefore, messages_sent, pairs_came, send_at}
use Rattle.nm_channels.proofs.Causes.{Source, HasSource}
use Rattle.nm_channels.proofs.Ordered.{rise, happened_at}
use Rattle.nm_channels.proofs.Answering.{Goes, asks}
use Rattle.nm_channels.proofs.Recalls.{earlier_more}
use Rattle.nm_channels.proofs.Streams.{StreamContinued, UndoneContinued}
use Rattle.nm_types.specs.declared.messages.Envelope.{Envelope}
use Rattle.std.specs.Bool.{OnTrue}
use Rattle.nm_types.proofs.NumberLemmas.{eq_true, same_number}
use Rattle.nm_types.proofs.ListLemmas.{all_append, all_split, all_along}
use Rattle.nm_types.proofs.TruthLemmas.{and_left, and_right}
use Rattle.nm_history.proofs.AppendLemmas.{arrivals-append}

-- the message of a pair that an event makes was sent before that event
pub pair_sent : (i : ℕ) (ss : List Sent) (h before : List Event) (e : Event) (after : List Event) (pair : Pair) →
    h ≡ before ++ e ∷ after → AtEach (λ before e. StampAt before e.stamp) h →
    AllByRecursion (λ (x : Arrived). SentAs i ss x.stamp x.arrival) (arrivals h i) →
    new_pair before (matched_pairs before) e.what ≡ Some pair → pair.arrival.env.from ≡ i →
    SentAs i ss e.stamp pair.arrival
pair_sent i ss h before e after pair split stamps each made source =
    let early : List Event = before ++ e ∷ [] in
    let whole : h ≡ early ++ after = split ∙ sym (append_assoc before (e ∷ []) after) in
    let late : AllByRecursion (λ x. x.stamp ≤ e.stamp) early =
    all_append (λ (x : Event). x.stamp ≤ e.stamp) before (e ∷ [])
    (all_along (λ (x : Event). x.stamp < e.stamp) (λ x. x.stamp ≤ e.stamp) before (λ x lt. omega (arith, lt))
    (rise before e after (subst (λ (h : List Event). AtEach (λ before e. StampAt before e.stamp) h) split stamps)))
    (omega arith, tt) in
    let came : AllByRecursion (λ (x : Arrived). SentAs i ss x.stamp x.arrival) (arrivals early i) =
    (all_split (λ (x : Arrived). SentAs i ss x.stamp x.arrival) (arrivals early i) (arrivals after i)
    (subst (λ (as' : List Arrived). AllByRecursion (λ (x : Arrived). SentAs i ss x.stamp x.arrival) as')
    (ap (λ (h : List Event). arrivals h i) whole ∙ arrivals-append early after i) each)).0 in
    let pairs = pairs_came (SentBefore i ss e.stamp) early (messages_sent i e.stamp ss early late came) in
    let is : matched_pairs early ≡ matched_pairs before ++ pair ∷ [] = matched_pairs-push before e
    ∙ ap (λ (o : Option Pair). matched_pairs before ++ option_to_list o) made in
    (all_split (λ (pair : Pair). SentBefore i ss e.stamp pair.arrival) (matched_pairs before) (pair ∷ [])
    (subst (λ (ps : List Pair). AllByRecursion (λ (pair : Pair). SentBefore i ss e.stamp pair.arrival) ps) is
    pairs)).1.0 source

-- a message that was sent by asking had been sent before every greater stamp
asked_before : (i j n stamp : ℕ) (h : List Event) (a : Arrival) → SentAs i (sends h j) stamp a → a.n ≡ n →
    is_ask a.env.how ≡ true → happened (is_asked_send j n) (earlier_than stamp h) ≡ true
asked_before i j n stamp h a is_sent n_is asks =
    let found = send_at h j a.n is_sent.sent is_sent.at in
    let how_is : is_ask is_sent.sent.how ≡ true = ap (λ (env : Envelope). is_ask env.how) (sym is_sent.same) ∙ asks in
    let passes : is_asked_send j n found.0.event.what ≡ true =
    rw (found.0.what, eq_true is_sent.sent.to j found.1, eq_true is_sent.sent.n n (is_sent.number ∙ n_is), how_is)
    refl in
    ap (λ (k : List Event). happened (is_asked_send j n) (earlier_than stamp k)) found.0.split
    ∙ happened_at (is_asked_send j n) stamp found.0.before found.0.event found.0.after
    (omega (arith, found.0.stamp, is_sent.earlier)) passes

-- a clearance continued
abbrev pub ClearContinued : Taken → Type 0
ClearContinued t = (n : ℕ) → t.packet.what ≡ what.Clear n → t.continued ≡ true

pub clears_go : (i j : ℕ) (hi hj : List Event) (ts : List Taken) → AtEach (λ before e. StampAt before e.stamp) hj →
    AllByRecursion (λ (x : Arrived). SentAs i (sends hi j) x.stamp x.arrival) (arrivals hj i) →
    AllByRecursion (HasSource i hj) ts → AllByRecursion (Goes j hi) ts → AllByRecursion ClearContinued ts
clears_go i j hi hj ts stamps came sources goes = by-both (HasSource i hj) (Goes j hi) ClearContinued ts
    (λ t has go n same.
    let source : Source i hj t.packet.stamp (what.Clear n) = subst (λ (w : What). Source i hj t.packet.stamp w) same
    has in
    let pair : Pair = source.origin.0 in
    let clear : (pair.arrival.env.from == i && is_ask pair.arrival.env.how) ≡ true = source.origin.2 in
    let sent = pair_sent i (sends hi j) hj source.before source.event source.after pair source.split stamps came
    source.origin.1 (same_number pair.arrival.env.from i
    (and_left (pair.arrival.env.from == i) (is_ask pair.arrival.env.how) clear)) in
    let asked = asked_before i j n source.event.stamp hi pair.arrival sent source.origin.3
    (and_right (pair.arrival.env.from == i) (is_ask pair.arrival.env.how) clear) in
    go (ap is_of_stream same) (ap (λ (w : What). happened (asks j w) (earlier_than (t.packet.stamp + 1) hi)) same
    ∙ earlier_more (λ e. is_asked_send j n e.what) source.event.stamp (t.packet.stamp + 1) hi
    (omega (arith, source.since)) asked))
    sources goes

-- each packet continued whose kind of packet continued
pub all_continued : (ts : List Taken) → AllByRecursion StreamContinued ts → AllByRecursion UndoneContinued ts →
    AllByRecursion ClearContinued ts → AllByRecursion (λ t. t.continued ≡ true) ts
all_continued [] stream undone clears = tt
all_continued (t ∷ ts) stream undone clears =
    (by_what t.packet.what refl stream.0, all_continued ts stream.1 undone.1 clears.1) where
      by_what : (w : What) → t.packet.what ≡ w → OnTrue (is_of_stream w) (t.continued ≡ true) → t.continued ≡ true
      by_what (what.Clear n) is stream = clears.0 n is
      by_what (what.Withdrawn n done) is stream = undone.0 n done is
      by_what w is stream = stream
