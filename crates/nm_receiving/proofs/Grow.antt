-- What the definitions say of a history with one event more.
use Rattle.std.proofs.Common.{◌≡◌, ◌≢◌, ℕ, ◌+◌, ◌==◌, Bool, true, false, ◌&&◌, ◌||◌, cond}
use Rattle.std.proofs.Common.{Option, Some, None, List, [], ◌∷◌, ◌++◌, length, refl, sym, ◌∙◌, ap, subst, ◌⊎◌}
use Rattle.std.proofs.Common.{inl, inr}
use Rattle.std.proofs.Common.{arith, length-append, append-nil}
use Rattle.std.specs.List.{find, filter, list_any, cons_option}
use Rattle.std.specs.Option.{option_to_list}
use Rattle.std.proofs.lemmas.Bool.{cases_eq, true≢false}
use Rattle.std.proofs.lemmas.Option.{same_Some}
use Rattle.nm_history.proofs.Basic.{or_false, or_true}
use Rattle.nm_history.proofs.Sent.{happened-append}
use Rattle.std.proofs.lemmas.List.Elements.{filter-append}
use Rattle.std.proofs.lemmas.List.Folds.{list_any-append}
use Rattle.nm_types.specs.declared.messages.Arrival.{Arrival}
use Rattle.nm_types.specs.declared.messages.Post as post
use Rattle.nm_history.specs.declared.events.Event.{Event}
use Rattle.nm_history.specs.declared.events.Happened.{Happened}
use Rattle.nm_history.specs.declared.events.Happened.TheVariants.{Arrive}
use Rattle.nm_history.specs.declared.plain.Pair.{Pair}
use Rattle.nm_history.specs.Completion.{pair_of_receive, is_taken}
use Rattle.nm_history.specs.Happens.{at, happened}
use Rattle.nm_history.specs.Matching.{is_matching, is_of_message, is_of_receive, matched_pairs}
use Rattle.nm_history.specs.Sends.{Arrived, arrivals, arrival_of, arrived_of, messages, message_of, posts, post_of}
use Rattle.nm_history.proofs.MatchingLemmas.{matched_pairs-push_other}
use Rattle.nm_history.proofs.OnceLemmas.{arrivals-push, messages-push, posts-push}
use Rattle.nm_history.specs.Pieces.{granted, is_granted}
use Rattle.nm_receiving.proofs.Lists.{find-first_more, find-none_more}
use Rattle.nm_types.proofs.NumberLemmas.{unequal, eq_true}
use Rattle.nm_history.proofs.AppendLemmas.{happened-push}

no_arrived : (stamp : ℕ) (what : Happened) → arrival_of what ≡ None → arrived_of stamp what ≡ None
no_arrived stamp (Arrive a) none = absurd (let h' : ⊥ = cc in h')
no_arrived stamp what none = refl

-- no message came
pub arrivals_still : (h : List Event) (e : Event) → arrival_of e.what ≡ None →
    (from : ℕ) → arrivals (h ++ e ∷ []) from ≡ arrivals h from
arrivals_still h e none from =
    arrivals-push h e from
    ∙ ap (λ (o : Option Arrived). arrivals h from ++ filter (λ a. a.arrival.env.from == from) (cons_option o []))
    (no_arrived e.stamp e.what none)
    ∙ append-nil (arrivals h from)

pub messages_still : (h : List Event) (e : Event) → arrival_of e.what ≡ None → messages (h ++ e ∷ []) ≡ messages h
messages_still h e none = messages-push h e
    ∙ ap (λ (o : Option Arrival). messages h ++ cons_option o []) none ∙ append-nil (messages h)

-- a message came
arrivals_one : (h : List Event) (stamp : ℕ) (a : Arrival) (from : ℕ) (b : Bool) → (a.env.from == from) ≡ b
    → length (arrivals (h ++ at stamp (Arrive a) ∷ []) from) ≡ length (arrivals h from) + cond b 1 0
arrivals_one h stamp a from b is =
    ap length (arrivals-push h (at stamp (Arrive a)) from
    ∙ ap (λ (b : Bool). arrivals h from ++ cond b (record { stamp = stamp; arrival = a } ∷ []) []) is)
    ∙ by b
  where
    by : (b : Bool) → length (arrivals h from ++ cond b (record { stamp = stamp; arrival = a } ∷ []) []) ≡ length
        (arrivals h from) + cond b 1 0
    by true = length-append (arrivals h from) (record { stamp = stamp; arrival = a } ∷ [])
    by false = omega (arith, ap length (append-nil (arrivals h from)))

pub arrivals_more : (h : List Event) (stamp : ℕ) (a : Arrival) (from : ℕ) → from ≡ a.env.from
    → length (arrivals (h ++ at stamp (Arrive a) ∷ []) from) ≡ length (arrivals h from) + 1
arrivals_more h stamp a from same = arrivals_one h stamp a from true (eq_true a.env.from from (sym same))

pub arrivals_other : (h : List Event) (stamp : ℕ) (a : Arrival) (from : ℕ) → from ≢ a.env.from
    → length (arrivals (h ++ at stamp (Arrive a) ∷ []) from) ≡ length (arrivals h from)
arrivals_other h stamp a from differ =
    let is = arrivals_one h stamp a from false (unequal a.env.from from (λ same. differ (sym same))) in omega arith

-- message n of a rank
pub message_still : (h : List Event) (e : Event) → arrival_of e.what ≡ None →
    (from n : ℕ) → message_of (h ++ e ∷ []) from n ≡ message_of h from n
message_still h e none from n = ap (λ (ms : List Arrival). find (λ a. a.env.from == from && a.n == n) ms)
    (messages_still h e none)

is_this : (a : Arrival) (from n : ℕ) → a.env.from ≡ from → a.n ≡ n → (a.env.from == from && a.n == n) ≡ true
is_this a from n same same' = ap (λ (b : Bool). b && a.n == n) (eq_true a.env.from from same) ∙ eq_true a.n n same'

not_this : (a : Arrival) (from n : ℕ) → (a.env.from ≡ from → a.n ≡ n → ⊥) → (a.env.from == from && a.n == n) ≡ false
not_this a from n differ = by (cases_eq a.env.from from)
  where
    by : (a.env.from ≡ from) ⊎ (a.env.from ≡ from → ⊥) → (a.env.from == from && a.n == n) ≡ false
    by (inl same) = ap (λ (b : Bool). b && a.n == n) (eq_true a.env.from from same) ∙ unequal a.n n (differ same)
    by (inr other) = ap (λ (b : Bool). b && a.n == n) (unequal a.env.from from other)

pub message_more : (h : List Event) (stamp : ℕ) (a : Arrival) → message_of h a.env.from a.n ≡ None
    → message_of (h ++ at stamp (Arrive a) ∷ []) a.env.from a.n ≡ Some a
message_more h stamp a none =
    ap (λ (ms : List Arrival). find (λ b. b.env.from == a.env.from && b.n == a.n) ms)
    (messages-push h (at stamp (Arrive a)))
    ∙ find-first_more (λ (b : Arrival). b.env.from == a.env.from && b.n == a.n) (messages h) (Some a) none
    (λ b is. let same : a ≡ b = cc in is_this b a.env.from a.n (ap (λ (c : Arrival). c.env.from) (sym same))
    (ap (λ (c : Arrival). c.n) (sym same)))

pub message_other : (h : List Event) (stamp : ℕ) (a : Arrival) (from n : ℕ) → (a.env.from ≡ from → a.n ≡ n → ⊥)
    → message_of (h ++ at stamp (Arrive a) ∷ []) from n ≡ message_of h from n
message_other h stamp a from n differ =
    ap (λ (ms : List Arrival). find (λ b. b.env.from == from && b.n == n) ms) (messages-push h (at stamp (Arrive a)))
    ∙ find-none_more (λ (b : Arrival). b.env.from == from && b.n == n) (messages h) (Some a)
    (λ b is. let same : a ≡ b = cc in ap (λ (c : Arrival). c.env.from == from && c.n == n) (sym same)
    ∙ not_this a from n differ)

-- something did not happen now, or did
pub happened_still : (test : Happened → Bool) (h : List Event) (e : Event) → test e.what ≡ false →
    happened test (h ++ e ∷ []) ≡ happened test h
happened_still test h e none = happened-push test h e ∙ ap (λ (b : Bool). happened test h || b) none
    ∙ or_false (happened test h)

pub happened_now : (test : Happened → Bool) (h : List Event) (e : Event) → test e.what ≡ true →
    happened test (h ++ e ∷ []) ≡ true
happened_now test h e holds = happened-push test h e ∙ ap (λ (b : Bool). happened test h || b) holds
    ∙ or_true (happened test h)

pub happened_later : (test : Happened → Bool) (h more : List Event) → happened test h ≡ true →
    happened test (h ++ more) ≡ true
happened_later test h more holds = happened-append test h more ∙ ap (λ (b : Bool). b || happened test more) holds

pub posts_still : (h : List Event) (e : Event) → post_of e.what ≡ None → posts (h ++ e ∷ []) ≡ posts h
posts_still h e none = posts-push h e ∙ ap (λ (o : Option post.Post). posts h ++ cons_option o []) none
    ∙ append-nil (posts h)

-- pairs, where these are the new one, if there is one
pub pair_still : (h h' : List Event) (o : Option Pair) → matched_pairs h' ≡ matched_pairs h ++ option_to_list o
    → (k : ℕ) → ((pair : Pair) → o ≡ Some pair → pair.number ≢ k) → pair_of_receive h' k ≡ pair_of_receive h k
pair_still h h' o grown k other =
    ap (λ (ps : List Pair). find (is_of_receive k) ps) grown
    ∙ find-none_more (is_of_receive k) (matched_pairs h) o (λ pair is. unequal pair.number k (other pair is))

pub pair_new : (h h' : List Event) (o : Option Pair) → matched_pairs h' ≡ matched_pairs h ++ option_to_list o
    → (k : ℕ) → pair_of_receive h k ≡ None → ((pair : Pair) → o ≡ Some pair → pair.number ≡ k) →
    pair_of_receive h' k ≡ o
pair_new h h' o grown k none own =
    ap (λ (ps : List Pair). find (is_of_receive k) ps) grown
    ∙ find-first_more (is_of_receive k) (matched_pairs h) o none (λ pair is. eq_true pair.number k (own pair is))

pub taken_later : (h h' : List Event) (more : List Pair) → matched_pairs h' ≡ matched_pairs h ++ more
    → (from n : ℕ) → is_taken h from n ≡ true → is_taken h' from n ≡ true
taken_later h h' more grown from n holds =
    ap (λ (ps : List Pair). list_any (is_of_message from n) ps) grown
    ∙ list_any-append (is_of_message from n) (matched_pairs h) more
    ∙ ap (λ (b : Bool). b || list_any (is_of_message from n) more) holds

pub taken_now : (h h' : List Event) (pair : Pair) → matched_pairs h' ≡ matched_pairs h ++ pair ∷ []
    → is_taken h' pair.arrival.env.from pair.arrival.n ≡ true
taken_now h h' pair grown =
    let from = pair.arrival.env.from in let n = pair.arrival.n in
    ap (λ (ps : List Pair). list_any (is_of_message from n) ps) grown
    ∙ list_any-append (is_of_message from n) (matched_pairs h) (pair ∷ [])
    ∙ ap (λ (b : Bool). is_taken h from n || (b || false)) (is_this pair.arrival from n refl refl)
    ∙ or_true (is_taken h from n)

-- a message that another pair took
pub taken_other : (h h' : List Event) (o : Option Pair) → matched_pairs h' ≡ matched_pairs h ++ option_to_list o
    → (from n : ℕ) → ((pair : Pair) → o ≡ Some pair → pair.arrival.env.from ≡ from → pair.arrival.n ≡ n → ⊥)
    → is_taken h' from n ≡ is_taken h from n
taken_other h h' o grown from n other =
    ap (λ (ps : List Pair). list_any (is_of_message from n) ps) grown
    ∙ list_any-append (is_of_message from n) (matched_pairs h) (option_to_list o)
    ∙ by o other ∙ or_false (is_taken h from n)
  where
    by : (o : Option Pair) → ((pair : Pair) → o ≡ Some pair → pair.arrival.env.from ≡ from → pair.arrival.n ≡ n → ⊥)
        → (is_taken h from n || list_any (is_of_message from n) (option_to_list o)) ≡ (is_taken h from n || false)
    by None other = refl
    by (Some pair) other = ap (λ (b : Bool). is_taken h from n || (b || false))
        (not_this pair.arrival from n (other pair refl))

-- a message that is taken now and was not before: the new pair took it
pub newly_taken : (h h' : List Event) (o : Option Pair) → matched_pairs h' ≡ matched_pairs h ++ option_to_list o
    → (from n : ℕ) → is_taken h from n ≡ false → is_taken h' from n ≡ true
    → (pair : Pair) × (o ≡ Some pair) × (pair.arrival.env.from ≡ from) × (pair.arrival.n ≡ n)
newly_taken h h' None grown from n not_yet now = absurd (true≢false (sym now
    ∙ taken_other h h' None grown from n (λ pair is. absurd (let h' : ⊥ = cc in h')) ∙ not_yet))
newly_taken h h' (Some pair) grown from n not_yet now = by (cases_eq pair.arrival.env.from from)
    (cases_eq pair.arrival.n n)
  where
    other : (pair.arrival.env.from ≡ from → pair.arrival.n ≡ n → ⊥) → ⊥
    other differ = true≢false (sym now
        ∙ taken_other h h' (Some pair) grown from n (λ q is.
        subst (λ (q : Pair). q.arrival.env.from ≡ from → q.arrival.n ≡ n → ⊥) (same_Some pair q is) differ)
        ∙ not_yet)

    by : (pair.arrival.env.from ≡ from) ⊎ (pair.arrival.env.from ≡ from → ⊥)
        → (pair.arrival.n ≡ n) ⊎ (pair.arrival.n ≡ n → ⊥)
        → (q : Pair) × (Some pair ≡ Some q) × (q.arrival.env.from ≡ from) × (q.arrival.n ≡ n)
    by (inl same) (inl same') = (pair, refl, same, same')
    by (inl same) (inr differ) = absurd (other (λ _ is. differ is))
    by (inr differ) place = absurd (other (λ is _. differ is))

-- what comes in pieces
pub granted_more : (h h' : List Event) (o : Option Pair) → matched_pairs h' ≡ matched_pairs h ++ option_to_list o
    → (from : ℕ) → granted h' from ≡ granted h from ++ filter (is_granted from) (option_to_list o)
granted_more h h' o grown from =
    ap (λ (ps : List Pair). filter (is_granted from) ps) grown ∙ filter-append (is_granted from) (matched_pairs h)
    (option_to_list o)

pub pairs_still : (h : List Event) (e : Event) → is_matching e.what ≡ false →
    matched_pairs (h ++ e ∷ []) ≡ matched_pairs h ++ option_to_list None
pairs_still h e none = matched_pairs-push_other h e none ∙ sym (append-nil (matched_pairs h))
