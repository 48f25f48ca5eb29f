-- What a right history says of its messages, and of what is empty.
use Rattle.std.specs.Prelude.{Contains}
use Rattle.std.proofs.Common.{◌≡◌, ℕ, ◌<◌, ◌==◌, Bool, true, false, not, ◌&&◌, ◌||◌, inl, inr}
use Rattle.std.proofs.Common.{Option, Some, None, List, [], ◌∷◌, ◌++◌, length, refl, sym, ◌∙◌, ap, subst}
use Rattle.std.proofs.Common.{arith, append-nil, append_assoc}
use Rattle.std.specs.List.{All, AllByRecursion, cons_option, find, list_any}
use Rattle.std.specs.Option.{option_to_list}
use Rattle.std.specs.Bool.{OnTrue}
use Rattle.std.proofs.lemmas.Bool.{le-ltb, OnTrue_from, OnTrue_at}
use Rattle.std.proofs.lemmas.List.Elements.{All-contains, All-nil, All-push, All-weaker, recursion_from_All}
use Rattle.nm_types.specs.declared.messages.Arrival.{Arrival}
use Rattle.nm_types.specs.declared.messages.Peer.{Peer}
use Rattle.nm_types.specs.declared.messages.TagPick.{TagPick}
use Rattle.nm_history.specs.declared.events.Event.{Event}
use Rattle.nm_history.specs.declared.events.Happened.{Happened}
use Rattle.nm_history.specs.declared.events.Happened.TheVariants.{Arrive}
use Rattle.nm_history.specs.declared.plain.Pair.{Pair}
use Rattle.nm_history.specs.AtEach.{AtEach, AtEachAfter}
use Rattle.nm_history.specs.Completion.{is_taken}
use Rattle.nm_history.specs.Happens.{at, happened, is_arrival, is_claim, is_whole}
use Rattle.nm_history.specs.Matching.{first_message, is_claimed, is_free, is_of_message, matched_pairs}
use Rattle.nm_history.specs.Once.{IsOfReceive}
use Rattle.nm_history.specs.RankRun.{Always, NumberAt, is_asking}
use Rattle.nm_history.specs.Selection.{matches, matches_source, matches_tag}
use Rattle.nm_history.specs.Sends.{arrivals, arrival_of, is_ask, messages, message_of}
use Rattle.nm_history.proofs.AtEachLemmas.{AtEach-push}
use Rattle.nm_history.proofs.OnceLemmas.{find_among, messages-push, not_true}
use Rattle.nm_history.proofs.SelectionLemmas.{find_contains, matched_pairs_of_receives}
use Rattle.nm_history.specs.Rest.{EmptyAreHere}
use Rattle.nm_history.specs.Rules.{AreRight}
use Rattle.nm_history.proofs.Basic.{any_gives}
use Rattle.nm_history.proofs.Right.{right-numbers}
use Rattle.nm_match.specs.Deeds.{is_known_message}
use Rattle.nm_match.proofs.NumberLemmas.{is_known_message-arrived, messages_numbered}
use Rattle.nm_match.proofs.QueueLemmas.{free_means}
use Rattle.nm_receiving.specs.Receipts.{is_empty_ask}
use Rattle.nm_receiving.proofs.Grow.{message_more, messages_still}
use Rattle.nm_receiving.proofs.Lists.{any_from_found, find-still}
use Rattle.nm_types.proofs.ListLemmas.{all_append, all_along, find_passes, find_nothing, find_some}
use Rattle.nm_types.proofs.NumberLemmas.{same_number}
use Rattle.nm_types.proofs.TruthLemmas.{and_left, and_right}

-- each message is the one of its name, and of a rank of the run
abbrev pub Is_named : ℕ → List Event → Arrival → Type 0
Is_named ranks h a = (message_of h a.env.from a.n ≡ Some a) × (a.env.from < ranks)

abbrev pub Are_named : ℕ → List Event → Type 0
Are_named ranks h = All (Is_named ranks h) (messages h)

pub message_from_none : (h : List Event) (from n : ℕ) → is_known_message h from n ≡ false → message_of h from n ≡ None
unfolding is_known_message
message_from_none h from n none = find_nothing (λ (a : Arrival). a.env.from == from && a.n == n) (messages h) none

still_named : (ranks : ℕ) (h : List Event) (e : Event) (a : Arrival) → Is_named ranks h a →
    Is_named ranks (h ++ e ∷ []) a
still_named ranks h e a named = (
  ap (λ (ms : List Arrival). find (λ b. b.env.from == a.env.from && b.n == a.n) ms) (messages-push h e)
      ∙ find-still (λ (b : Arrival). b.env.from == a.env.from && b.n == a.n) (messages h)
      (cons_option (arrival_of e.what) []) a named.0,
  named.1,
)

named_push : (ranks : ℕ) (h : List Event) (stamp : ℕ) (what : Happened) → Always (NumberAt ranks) h →
    NumberAt ranks h what
    → Are_named ranks h → Are_named ranks (h ++ at stamp what ∷ [])
named_push ranks h stamp (Arrive a) numbers number named =
    let e : Event = at stamp (Arrive a) in
    let unknown : is_known_message h a.env.from a.n ≡ false =
    messages_numbered ranks h numbers a.env.from a.n ∙ le-ltb a.n (length (arrivals h a.env.from))
    (omega (arith, number.1)) in
    subst (λ (ms : List Arrival). All (Is_named ranks (h ++ e ∷ [])) ms) (sym (messages-push h e))
    (All-push (Is_named ranks (h ++ e ∷ [])) (messages h) a
    (All-weaker (Is_named ranks h) (Is_named ranks (h ++ e ∷ [])) (λ b. still_named ranks h e b) (messages h) named)
    (message_more h stamp a (message_from_none h a.env.from a.n unknown), number.0))
named_push ranks h stamp what numbers number named =
    subst (λ (ms : List Arrival). All (Is_named ranks (h ++ at stamp what ∷ [])) ms)
    (sym (messages_still h (at stamp what) refl))
    (All-weaker (Is_named ranks h) (Is_named ranks (h ++ at stamp what ∷ []))
    (λ b. still_named ranks h (at stamp what) b) (messages h) named)

named_after : (ranks : ℕ) (h events : List Event) → Always (NumberAt ranks) h → Are_named ranks h
    → AtEachAfter (λ before e. NumberAt ranks before e.what) h events → Are_named ranks (h ++ events)
named_after ranks h [] numbers named after = subst (λ (k : List Event). Are_named ranks k) (sym (append-nil h)) named
named_after ranks h (e ∷ events) numbers named after =
    subst (λ (k : List Event). Are_named ranks k) (append_assoc h (e ∷ []) events)
    (named_after ranks (h ++ e ∷ []) events
    (AtEach-push (λ before e. NumberAt ranks before e.what) h e numbers after.0)
    (named_push ranks h e.stamp e.what numbers after.0 named) after.1)

pub named_all : (ranks : ℕ) (h : List Event) → Always (NumberAt ranks) h → Are_named ranks h
unfolding AtEach
named_all ranks h numbers = named_after ranks [] h tt (All-nil (Is_named ranks [])) numbers

pub right_named : (ranks : ℕ) (h : List Event) → AreRight ranks [] h → Are_named ranks h
right_named ranks h right = named_all ranks h (right-numbers ranks h right)

-- the message of a name
pub message_name : (h : List Event) (from n : ℕ) (a : Arrival) → message_of h from n ≡ Some a →
    (a.env.from ≡ from) × (a.n ≡ n)
message_name h from n a is =
    let passes = find_passes (λ (a : Arrival). a.env.from == from && a.n == n) (messages h) a is in (
      same_number a.env.from from (and_left (a.env.from == from) (a.n == n) passes),
      same_number a.n n (and_right (a.env.from == from) (a.n == n) passes),
    )

pub message_sender : (ranks : ℕ) (h : List Event) (from n : ℕ) (a : Arrival) → Are_named ranks h →
    message_of h from n ≡ Some a → a.env.from < ranks
message_sender ranks h from n a named is =
    let found = find_among (Is_named ranks h) (λ (a : Arrival). a.env.from == from && a.n == n)
    (messages h) a named is in found.1

-- the pair that a taken message is in: its message is the one of its name
pub taken_pair : (ranks : ℕ) (h : List Event) → AreRight ranks [] h → (from n : ℕ) → is_taken h from n ≡ true
    → (pair : Pair) × Contains (matched_pairs h) pair × (message_of h from n ≡ Some pair.arrival)
taken_pair ranks h right from n is =
    let found = find_some (is_of_message from n) (matched_pairs h) is in
    let pair : Pair = found.0 in
    let among = find_contains (is_of_message from n) (matched_pairs h) pair found.1 in
    let passes = find_passes (is_of_message from n) (matched_pairs h) pair found.1 in
    let from_is = same_number pair.arrival.env.from from
    (and_left (pair.arrival.env.from == from) (pair.arrival.n == n) passes) in
    let n_is = same_number pair.arrival.n n
    (and_right (pair.arrival.env.from == from) (pair.arrival.n == n) passes) in
    let came = of (All-contains (IsOfReceive h) (matched_pairs h) pair (matched_pairs_of_receives h) among) in
    let named = All-contains (Is_named ranks h) (messages h) pair.arrival (right_named ranks h right) came in (
      pair,
      among,
      sym (ap (λ (i : ℕ). message_of h i pair.arrival.n) from_is ∙ ap (λ (j : ℕ). message_of h from j) n_is)
          ∙ named.0,
    )
  where
    of : {pair : Pair} → IsOfReceive h pair → Contains (messages h) pair.arrival
    of (inl was) = was.came
    of (inr was) = was.came

-- what a receive takes: a message that came, of a rank of the run, and that no receive took
pub record IsTakeable (ranks : ℕ) (h : List Event) (a : Arrival) : Type 0 where
  pub named : message_of h a.env.from a.n ≡ Some a
  pub sender : a.env.from < ranks
  pub untaken : is_taken h a.env.from a.n ≡ false

pub first_takeable : (ranks : ℕ) (h : List Event) (from : Peer) (tag : TagPick) (ctx : ℕ) (a : Arrival)
    → Are_named ranks h → first_message h (matched_pairs h) from tag ctx ≡ Some a → IsTakeable ranks h a
first_takeable ranks h from tag ctx a named is =
    let test = λ (a : Arrival). matches from tag ctx a.env && is_free h (matched_pairs h) a in
    let found = find_among (Is_named ranks h) test (messages h) a named is in
    let passes = find_passes test (messages h) a is in
    let free = free_means h (matched_pairs h) a.env.from a.n
    (and_right (matches from tag ctx a.env) (is_free h (matched_pairs h) a) passes) in
    record { named = found.0; sender = found.1; untaken = free.0 }

-- .. which is of the source that it names
pub first_source : (h : List Event) (from : Peer) (tag : TagPick) (ctx : ℕ) (a : Arrival)
    → first_message h (matched_pairs h) from tag ctx ≡ Some a → matches_source from a.env.from ≡ true
first_source h from tag ctx a is =
    let passes = find_passes (λ a. matches from tag ctx a.env && is_free h (matched_pairs h) a) (messages h) a is in
    let matched = and_left (matches from tag ctx a.env) (is_free h (matched_pairs h) a) passes in
    and_right (ctx == a.env.ctx) (matches_source from a.env.from)
    (and_left (ctx == a.env.ctx && matches_source from a.env.from) (matches_tag tag a.env.tag) matched)

pub claimed_takeable : (ranks : ℕ) (h : List Event) (from n : ℕ) (a : Arrival) → Are_named ranks h
    → is_claimed h (matched_pairs h) from n ≡ true → message_of h from n ≡ Some a → IsTakeable ranks h a
claimed_takeable ranks h from n a named claimed is =
    let name = message_name h from n a is in
    let untaken : is_taken h from n ≡ false =
    not_true (is_taken h from n) (and_right (happened (is_claim from n) h) (not (is_taken h from n)) claimed) in
    record {
      named = ap (λ (i : ℕ). message_of h i a.n) name.0 ∙ ap (λ (j : ℕ). message_of h from j) name.1 ∙ is;
      sender = message_sender ranks h from n a named is;
      untaken = ap (λ (i : ℕ). is_taken h i a.n) name.0 ∙ ap (λ (j : ℕ). is_taken h from j) name.1 ∙ untaken;
    }

-- a message that is known arrived
pub arrived_from : (h : List Event) (from n : ℕ) (a : Arrival) → message_of h from n ≡ Some a →
    happened (is_arrival from n) h ≡ true
unfolding is_known_message
arrived_from h from n a is =
    sym (is_known_message-arrived h from n) ∙ any_from_found (λ (a : Arrival). a.env.from == from && a.n == n)
    (messages h) a is

-- one that is sent by asking
asks : ℕ → ℕ → Arrival → Bool
asks from n a = a.env.from == from && a.n == n && is_ask a.env.how

asking_at : (from n : ℕ) (rest : List Arrival) (what : Happened) (later : Bool) → list_any (asks from n) rest ≡ later
    → list_any (asks from n) (cons_option (arrival_of what) rest) ≡ (is_asking from n what || later)
unfolding asks
asking_at from n rest (Arrive a) later is =
    ap (λ (b : Bool). (a.env.from == from && a.n == n && is_ask a.env.how) || b) is
asking_at from n rest what later is = is

asking_among : (from n : ℕ) (h : List Event) → list_any (asks from n) (messages h) ≡ happened (is_asking from n) h
asking_among from n [] = refl
asking_among from n (e ∷ h) = asking_at from n (messages h) e.what (happened (is_asking from n) h)
    (asking_among from n h)

pub asking_is : (ranks : ℕ) (h : List Event) (from n : ℕ) → Are_named ranks h → happened (is_asking from n) h ≡ true
    → (a : Arrival) × (message_of h from n ≡ Some a) × (is_ask a.env.how ≡ true)
unfolding asks
asking_is ranks h from n named is =
    any_gives (asks from n) ((a : Arrival) × (message_of h from n ≡ Some a) × (is_ask a.env.how ≡ true)) (messages h)
    (asking_among from n h ∙ is)
    (all_along (Is_named ranks h) (λ (a : Arrival). asks from n a ≡ true →
    (a : Arrival) × (message_of h from n ≡ Some a) × (is_ask a.env.how ≡ true))
    (messages h) (λ a name passes.
    let first = and_left (a.env.from == from && a.n == n) (is_ask a.env.how) passes in
    let from_is = same_number a.env.from from (and_left (a.env.from == from) (a.n == n) first) in
    let n_is = same_number a.n n (and_right (a.env.from == from) (a.n == n) first) in (
      a,
      sym (ap (λ (i : ℕ). message_of h i a.n) from_is ∙ ap (λ (j : ℕ). message_of h from j) n_is) ∙ name.0,
      and_right (a.env.from == from && a.n == n) (is_ask a.env.how) passes,
    ))
    (recursion_from_All (Is_named ranks h) (messages h) named))

-- the message of the pair is here, if it is empty and was asked for
abbrev pub Whole_in : List Event → Pair → Type 0
Whole_in k pair = OnTrue (is_empty_ask pair.arrival) (happened (is_whole pair.arrival.env.from pair.arrival.n) k ≡ true)

-- each empty message that was asked for is here, after the one that a new pair takes
pub empty_more : (h h' : List Event) (o : Option Pair) → matched_pairs h' ≡ matched_pairs h ++ option_to_list o
    → ((from n : ℕ) → happened (is_whole from n) h ≡ true → happened (is_whole from n) h' ≡ true)
    → ((pair : Pair) → o ≡ Some pair → is_empty_ask pair.arrival ≡ true
    → happened (is_whole pair.arrival.env.from pair.arrival.n) h' ≡ true)
    → EmptyAreHere h → EmptyAreHere h'
empty_more h h' o grown still here empty =
    subst (λ (ps : List Pair). AllByRecursion (Whole_in h') ps) (sym grown)
    (all_append (Whole_in h') (matched_pairs h) (option_to_list o)
    (all_along (Whole_in h) (Whole_in h') (matched_pairs h)
    (λ pair was. OnTrue_from (is_empty_ask pair.arrival)
    (happened (is_whole pair.arrival.env.from pair.arrival.n) h' ≡ true)
    (λ is. still pair.arrival.env.from pair.arrival.n (OnTrue_at is was))) empty)
    (new o here))
  where
    new : (o : Option Pair) → ((pair : Pair) → o ≡ Some pair → is_empty_ask pair.arrival ≡ true
        → happened (is_whole pair.arrival.env.from pair.arrival.n) h' ≡ true) → AllByRecursion (Whole_in h')
        (option_to_list o)
    new None here = tt
    new (Some pair) here = (
      OnTrue_from (is_empty_ask pair.arrival) (happened (is_whole pair.arrival.env.from pair.arrival.n) h' ≡ true)
          (here pair refl),
      tt,
    )
