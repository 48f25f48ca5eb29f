-- No answer clashes with one before it.
use Rattle.std.proofs.Common.{◌≡◌, ℕ, zero, suc, ◌+◌, ◌==◌, Bool, true, false, ◌&&◌, cond, Option, Some, None, List}
use Rattle.std.proofs.Common.{[], ◌∷◌, ◌++◌, map, refl, sym, ◌∙◌, ap, subst}
use Rattle.std.specs.List.{AllByRecursion, list_any, range_with_len}
use Rattle.std.specs.Option.{option_map_or, option_to_list}
use Rattle.std.proofs.lemmas.List.Folds.{list_any-append}
use Rattle.nm_types.specs.declared.messages.How.{How}
use Rattle.nm_types.specs.declared.messages.How.TheVariants as how
use Rattle.nm_types.specs.declared.packets.What.{What}
use Rattle.nm_types.specs.declared.packets.What.TheVariants as what
use Rattle.nm_history.specs.declared.events.Event.{Event}
use Rattle.nm_history.specs.declared.events.Happened.{Happened}
use Rattle.nm_history.specs.declared.events.Happened.TheVariants.{Send, Post, Arrive, Match, Recall, Withdraw}
use Rattle.nm_history.specs.declared.plain.Pair.{Pair}
use Rattle.nm_history.specs.AtEach.{AtEachAfter, in_turn_after}
use Rattle.nm_history.specs.Sends.{Sent, is_ask}
use Rattle.nm_history.specs.Happens.{happened, is_withdraw}
use Rattle.nm_history.specs.Matching.{matched_pairs, new_pair, is_of_message, is_free_message}
use Rattle.nm_history.specs.Outgoing.{Called, packets_by, send_packets, eager_packets, clear_packets, is_clear, bare}
use Rattle.nm_history.specs.RankRun.{EndAt}
use Rattle.nm_history.proofs.MatchingLemmas.{matched_pairs-push, matched_pairs-append}
use Rattle.nm_channels.proofs.Streams.{clashes, NoClash, FreshAt}
use Rattle.nm_history.specs.Continues.{is_of_stream}
use Rattle.nm_channels.proofs.Causes.{Origin, event_calls}
use Rattle.nm_channels.proofs.Ordered.{is_cleared}
use Rattle.nm_history.proofs.Basic.{self_true, or_true, same_done, refuted, all_of}
use Rattle.nm_types.proofs.ListLemmas.{all_append, all_along}
use Rattle.nm_types.proofs.TruthLemmas.{or_left, and_left, and_right}
use Rattle.nm_types.proofs.NumberLemmas.{same_number}

-- what a history shows of an answer that was called for
abbrev Given : ℕ → List Event → What → Type 0
Given i before (what.Clear n) = list_any (is_of_message i n) (matched_pairs before) ≡ true
Given i before (what.Withdrawn n done) = happened (is_withdraw i n done) before ≡ true
Given i before _ = Unit {0}

given_still : (i : ℕ) (before : List Event) (e : Event) (w : What) → Given i before w → Given i (before ++ e ∷ []) w
given_still i before e (what.Clear n) given = let more = matched_pairs-append before (e ∷ []) in
    rw (more.1, list_any-append (is_of_message i n) (matched_pairs before) more.0) (or_left _ _ given)
given_still i before e (what.Withdrawn n done) given = list_any-append (λ (e : Event). is_withdraw i n done e.what)
    before (e ∷ []) ∙ or_left _ _ given
given_still i before e w given = tt

given_now : (i : ℕ) (before : List Event) (e : Event) (w : What) → Origin i before e.what w →
    Given i (before ++ e ∷ []) w
given_now i before e (what.Clear n) origin =
    let pair : Pair = origin.0 in
    ap (λ ps. list_any (is_of_message i n) ps)
    (matched_pairs-push before e ∙ ap (λ (o : Option Pair). matched_pairs before ++ option_to_list o) origin.1)
    ∙ list_any-append (is_of_message i n) (matched_pairs before) (pair ∷ [])
    ∙ rw (is_cleared i n pair origin.2 origin.3) (or_true _)
given_now i before e (what.Withdrawn n done) origin =
    list_any-append (λ (e : Event). is_withdraw i n done e.what) before (e ∷ [])
    ∙ rw (origin, self_true i, self_true n, same_done done) (or_true _)
given_now i before e w origin = tt

free_is_apart : (h : List Event) (found : List Pair) (from n : ℕ) → true ≡ is_free_message h found from n →
    list_any (is_of_message from n) found ≡ true → true ≡ false
unfolding is_free_message
free_is_apart h found from n free taken = free ∙ rw taken refl

apart : (i : ℕ) (before : List Event) (w' : Happened) (v w : What) → Given i before v → Origin i before w' w →
    FreshAt before w' → EndAt before w' → clashes v w ≡ false
apart i before w' (what.Clear n) (what.Clear m) given origin fresh ends = refuted (n == m) (λ test.
    let pair : Pair = origin.0 in
    let from_i : pair.arrival.env.from ≡ i = same_number pair.arrival.env.from i
    (and_left (pair.arrival.env.from == i) (is_ask pair.arrival.env.how) origin.2) in
    let is_n : pair.arrival.n ≡ n = origin.3 ∙ sym (same_number n m test) in
    sym given ∙ ap (λ (k : ℕ). list_any (is_of_message k n) (matched_pairs before)) (sym from_i)
    ∙ ap (λ (k : ℕ). list_any (is_of_message pair.arrival.env.from k) (matched_pairs before)) (sym is_n)
    ∙ (fresh pair origin.1).0)
apart i before w' (what.Clear n) (what.Withdrawn m done) given origin fresh ends = refuted (n == m && done) (λ test.
    let is_n : m ≡ n = sym (same_number n m (and_left (n == m) done test)) in
    let is_done : done ≡ true = and_right (n == m) done test in
    let ended : EndAt before (Withdraw i m done) = subst (λ (w : Happened). EndAt before w) origin ends in
    free_is_apart before (matched_pairs before) i m (sym is_done ∙ ended.3)
    (ap (λ (k : ℕ). list_any (is_of_message i k) (matched_pairs before)) is_n ∙ given))
apart i before w' (what.Withdrawn n done) (what.Clear m) given origin fresh ends = refuted (n == m && done) (λ test.
    let pair : Pair = origin.0 in
    let from_i : pair.arrival.env.from ≡ i = same_number pair.arrival.env.from i
    (and_left (pair.arrival.env.from == i) (is_ask pair.arrival.env.how) origin.2) in
    let is_n : pair.arrival.n ≡ n = origin.3 ∙ sym (same_number n m (and_left (n == m) done test)) in
    let is_done : done ≡ true = and_right (n == m) done test in
    sym given ∙ ap (λ (d : Bool). happened (is_withdraw i n d) before) is_done
    ∙ ap (λ (k : ℕ). happened (is_withdraw k n true) before) (sym from_i)
    ∙ ap (λ (k : ℕ). happened (is_withdraw pair.arrival.env.from k true) before) (sym is_n)
    ∙ (fresh pair origin.1).1)
apart i before w' (what.Withdrawn n done) (what.Withdrawn m done') given origin fresh ends = refuted (n == m) (λ test.
    let is_n : m ≡ n = sym (same_number n m test) in
    let ended : EndAt before (Withdraw i m done') = subst (λ (w : Happened). EndAt before w) origin ends in
    by_done done given is_n ended)
  where
    by_done : (d : Bool) → happened (is_withdraw i n d) before ≡ true → m ≡ n → EndAt before (Withdraw i m done') →
        true ≡ false
    by_done true given is_n ended = sym given ∙ ap (λ (k : ℕ). happened (is_withdraw i k true) before) (sym is_n)
        ∙ ended.0
    by_done false given is_n ended = sym given ∙ ap (λ (k : ℕ). happened (is_withdraw i k false) before) (sym is_n)
        ∙ ended.1
apart i before w' v w given origin fresh ends = refl

-- packets of messages clash with nothing
unclashing : (v w : What) → is_of_stream w ≡ true → clashes v w ≡ false
unclashing (what.Clear n) (what.Clear m) h = cc
unclashing (what.Clear n) (what.Withdrawn m done) h = cc
unclashing (what.Withdrawn n done) (what.Clear m) h = cc
unclashing (what.Withdrawn n done) (what.Withdrawn m done') h = cc
unclashing v w h = refl

stream_given : (i : ℕ) (before : List Event) (w : What) → is_of_stream w ≡ true → Given i before w
stream_given i before (what.Clear n) h = cc
stream_given i before (what.Withdrawn n done) h = cc
stream_given i before w h = tt

-- what comes after an event
abbrev Onward : ℕ → List Event → List Called → Type 0
Onward i after rest = (seen : List What) → AllByRecursion (Given i after) seen → NoClash seen (map (λ c. c.what) rest)

stream_clashes : (i : ℕ) (after : List Event) (cs rest : List Called) (seen : List What) →
    AllByRecursion (λ (c : Called). is_of_stream c.what ≡ true) cs → AllByRecursion (Given i after) seen →
    Onward i after rest → NoClash seen (map (λ c. c.what) (cs ++ rest))
stream_clashes i after [] rest seen stream given onward = onward seen given
stream_clashes i after (c ∷ cs) rest seen stream given onward = (
  all_of (λ v. clashes v c.what ≡ false) seen (λ v. unclashing v c.what stream.0),
  stream_clashes i after cs rest (c.what ∷ seen) stream.1 (stream_given i after c.what stream.0, given) onward,
)

one_clash : (i : ℕ) (before : List Event) (e : Event) (c : Called) (rest : List Called) (seen : List What) →
    Origin i before e.what c.what → FreshAt before e.what → EndAt before e.what →
    AllByRecursion (Given i before) seen → Onward i (before ++ e ∷ []) rest →
    NoClash seen (c.what ∷ map (λ c. c.what) rest)
one_clash i before e c rest seen origin fresh ends given onward = (
  all_along (Given i before) (λ v. clashes v c.what ≡ false) seen
      (λ v g. apart i before e.what v c.what g origin fresh ends) given,
  onward (c.what ∷ seen) (
    given_now i before e c.what origin,
    all_along (Given i before) (Given i (before ++ e ∷ []))
        seen (λ v g. given_still i before e v g) given,
  ),
)

mores_stream : (s : Sent) (f : ℕ → List ℕ) (m k : ℕ) → AllByRecursion (λ (c : Called). is_of_stream c.what ≡ true)
    (map (λ k. record { stamp = s.stamp; what = what.More s.n; payload = f k }) (range_with_len k m))
mores_stream s f zero k = tt
mores_stream s f (suc m) k = (refl, mores_stream s f m (k + 1))

pub send_stream : (s : Sent) (body : List ℕ) → AllByRecursion (λ (c : Called). is_of_stream c.what ≡ true)
    (send_packets s body)
send_stream s body = by_how s.how where
  by_how : (h : How) → AllByRecursion (λ (c : Called). is_of_stream c.what ≡ true)
      (cond (is_ask h) (bare s.stamp (what.Ask s.tag s.ctx s.len) ∷ []) (eager_packets s body))
  by_how how.Ask = (refl, tt)
  by_how how.Eager = (refl, mores_stream s _ _ 1)

-- packets of which none answers, or one
data Kind : List Called → Type 0 where
  Streams : (cs : List Called) → AllByRecursion (λ (c : Called). is_of_stream c.what ≡ true) cs → Kind cs
  Single : (stamp : ℕ) (w : What) → Kind (bare stamp w ∷ [])

pair_kind : (to stamp : ℕ) (o : Option Pair) → Kind (option_map_or (clear_packets to stamp) o [])
pair_kind to stamp None = Streams [] tt
pair_kind to stamp (Some pair) = by_test (is_clear to pair) where
  by_test : (b : Bool) → Kind (cond b (bare stamp (what.Clear pair.arrival.n) ∷ []) [])
  by_test true = Single _ _
  by_test false = Streams [] tt

event_kind : (bodies : Sent → List ℕ) (to : ℕ) (before : List Event) (stamp : ℕ) (w : Happened) →
    Kind (packets_by bodies to before stamp w)
event_kind bodies to before stamp (Send to' n tag ctx len how line) = by_test (to' == to) where
  s : Sent
  s = record { stamp = stamp; to = to'; n = n; tag = tag; ctx = ctx; len = len; how = how; line = line }

  by_test : (b : Bool) → Kind (cond b (send_packets s (bodies s)) [])
  by_test true = Streams _ (send_stream s (bodies s))
  by_test false = Streams [] tt
event_kind bodies to before stamp (Recall to' n) = by_test (to' == to) where
  by_test : (b : Bool) → Kind (cond b (bare stamp (what.Withdraw n) ∷ []) [])
  by_test true = Single _ _
  by_test false = Streams [] tt
event_kind bodies to before stamp (Withdraw from n done) = by_test (from == to) where
  by_test : (b : Bool) → Kind (cond b (bare stamp (what.Withdrawn n done) ∷ []) [])
  by_test true = Single _ _
  by_test false = Streams [] tt
event_kind bodies to before stamp (Post p line) = pair_kind to stamp
    (new_pair before (matched_pairs before) (Post p line))
event_kind bodies to before stamp (Arrive a) = pair_kind to stamp (new_pair before (matched_pairs before) (Arrive a))
event_kind bodies to before stamp (Match number from n cap' line) = pair_kind to stamp
    (new_pair before (matched_pairs before) (Match number from n cap' line))
event_kind bodies to before stamp w = Streams [] tt

kind_clashes : (i : ℕ) (before : List Event) (e : Event) (cs rest : List Called) (seen : List What) → Kind cs →
    AllByRecursion (λ c. (c.stamp ≡ e.stamp) × Origin i before e.what c.what) cs → FreshAt before e.what →
    EndAt before e.what →
    AllByRecursion (Given i before) seen → Onward i (before ++ e ∷ []) rest →
    NoClash seen (map (λ c. c.what) (cs ++ rest))
kind_clashes i before e cs rest seen (Streams _ stream) origins fresh ends given onward = stream_clashes i
    (before ++ e ∷ []) cs rest seen stream (all_along (Given i before) (Given i (before ++ e ∷ [])) seen
    (λ v g. given_still i before e v g) given) onward
kind_clashes i before e cs rest seen (Single stamp w) origins fresh ends given onward = one_clash i before e
    (bare stamp w) rest seen origins.0.1 fresh ends given onward

-- no packet that a history calls for clashes with one before it
pub history_clashes : (bodies : Sent → List ℕ) (i : ℕ) (before events : List Event) (seen : List What) →
    AtEachAfter (λ before e. FreshAt before e.what) before events →
    AtEachAfter (λ before e. EndAt before e.what) before events →
    AllByRecursion (Given i before) seen →
    NoClash seen (map (λ c. c.what)
    (in_turn_after (λ before e. packets_by bodies i before e.stamp e.what) before events))
history_clashes bodies i before [] seen fresh ends given = tt
history_clashes bodies i before (e ∷ events) seen fresh ends given =
    kind_clashes i before e (packets_by bodies i before e.stamp e.what)
    (in_turn_after (λ before e. packets_by bodies i before e.stamp e.what) (before ++ e ∷ []) events) seen
    (event_kind bodies i before e.stamp e.what) (event_calls bodies i before e.stamp e.what) fresh.0 ends.0 given
    (λ seen' given'. history_clashes bodies i (before ++ e ∷ []) events seen' fresh.1 ends.1 given')

-- an answer that is called for has no payload
abbrev pub BareCalled : Called → Type 0
BareCalled c = is_of_stream c.what ≡ false → c.payload ≡ []

kind_bare : (cs : List Called) → Kind cs → AllByRecursion BareCalled cs
kind_bare cs (Streams _ stream) = all_along (λ (c : Called). is_of_stream c.what ≡ true) BareCalled cs
    (λ c own other. absurd_bool (is_of_stream c.what) own other c) stream where
      absurd_bool : (b : Bool) → b ≡ true → b ≡ false → (c : Called) → c.payload ≡ []
      absurd_bool true own other c = cc
      absurd_bool false own other c = cc
kind_bare cs (Single stamp w) = ((λ other. refl), tt)

pub history_bare : (bodies : Sent → List ℕ) (i : ℕ) (before events : List Event) → AllByRecursion BareCalled
    (in_turn_after (λ before e. packets_by bodies i before e.stamp e.what) before events)
history_bare bodies i before [] = tt
history_bare bodies i before (e ∷ events) = all_append BareCalled (packets_by bodies i before e.stamp e.what) _
    (kind_bare _ (event_kind bodies i before e.stamp e.what)) (history_bare bodies i (before ++ e ∷ []) events)
