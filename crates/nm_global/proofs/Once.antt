-- By a history's rules no message goes to two receives, and its number names it.
use Rattle.std.proofs.Common.{◌≡◌, ℕ, suc, ◌<◌, ◌==◌, Bool, true, false, not, ◌&&◌, ◌||◌, cond, Option, Some}
use Rattle.std.proofs.Common.{None, List, [], ◌∷◌, ◌++◌, length, refl, sym, ◌∙◌, ap, subst, append-nil}
use Rattle.std.proofs.Common.{append_assoc, arith}
use Rattle.std.specs.List.{All, AllByRecursion, AllPairs, cons_option, find, list_any}
use Rattle.std.specs.Option.{option_or, option_to_list}
use Rattle.std.proofs.lemmas.Bool.{true≢false}
use Rattle.std.proofs.lemmas.List.Elements.{All-from_recursion}
use Rattle.std.proofs.lemmas.List.Folds.{find-append}
use Rattle.std.proofs.lemmas.List.Quantifiers.{all_pairs_push}
use Rattle.nm_types.specs.declared.messages.Arrival.{Arrival}
use Rattle.nm_types.specs.declared.messages.Post as post
use Rattle.nm_history.specs.declared.events.Event.{Event}
use Rattle.nm_history.specs.declared.events.Happened.{Happened}
use Rattle.nm_history.specs.declared.events.Happened.TheVariants.{Arrive, Match, Post}
use Rattle.nm_history.specs.declared.plain.Pair.{Pair}
use Rattle.nm_history.specs.AtEach.{AtEach, AtEachAfter}
use Rattle.nm_history.specs.Happens.{happened, is_arrival, is_claim, is_withdraw}
use Rattle.nm_history.specs.Matching.{first_message, first_receive, is_free, is_free_message, is_of_message}
use Rattle.nm_history.specs.Matching.{is_of_receive, matched_pairs, new_pair, pair_of, pair_of_claimed}
use Rattle.nm_history.specs.Once.{TwoMessages}
use Rattle.nm_history.specs.RankRun.{Always, NumberAt}
use Rattle.nm_history.specs.Selection.{matches}
use Rattle.nm_history.specs.Sends.{arrival_of, arrivals, message_of, messages}
use Rattle.nm_history.proofs.AtEachLemmas.{AtEach-push}
use Rattle.nm_history.proofs.MatchingLemmas.{matched_pairs-push}
use Rattle.nm_history.proofs.OnceLemmas.{find_among, first_of_three, messages-push}
use Rattle.nm_history.proofs.OnceLemmas.{not_true}
use Rattle.nm_history.specs.Rules.{AreRight, IsRightAt}
use Rattle.nm_history.proofs.Basic.{refuted}
use Rattle.nm_history.proofs.Basic.{self_true}
use Rattle.nm_history.proofs.Right.{right-numbers}
use Rattle.nm_channels.proofs.Bodies.{pair_came}
use Rattle.nm_channels.proofs.Fresh.{came_below}
use Rattle.nm_channels.proofs.Numbers.{pairs_came}
use Rattle.nm_types.proofs.NumberLemmas.{eq_true, same_number}
use Rattle.nm_types.proofs.ListLemmas.{all_append, all_along, find_passes, find_nothing}
use Rattle.nm_types.proofs.OptionLemmas.{mapped_some}
use Rattle.nm_types.proofs.TruthLemmas.{both, and_left, and_right}
use Rattle.nm_match.specs.Deeds.{is_message}

-- a message came where its arrival is in the history
came_happened : (events : List Event) (from n : ℕ) →
    list_any (is_message from n) (messages events) ≡ happened (is_arrival from n) events
came_happened [] from n = refl
came_happened (e ∷ events) from n = by_what e.what (came_happened events from n) where
  by_what : (w : Happened) →
      list_any (is_message from n) (messages events) ≡ happened (is_arrival from n) events →
      list_any (is_message from n) (cons_option (arrival_of w) (messages events))
      ≡ (is_arrival from n w || happened (is_arrival from n) events)
  by_what (Arrive a) same = ap (λ (b : Bool). is_message from n a || b) same
  by_what w same = same

-- its number is below the count of the arrivals
message_below : (ranks from n : ℕ) (h : List Event) → Always (NumberAt ranks) h →
    list_any (is_message from n) (messages h) ≡ true → n < length (arrivals h from)
unfolding AtEach
message_below ranks from n h numbers came =
    came_below ranks [] h from n numbers (sym (came_happened h from n) ∙ came)

-- a message is that of its rank and number
numbered_parts : (from n : ℕ) (a : Arrival) → is_message from n a ≡ true → (a.env.from ≡ from) × (a.n ≡ n)
numbered_parts from n a is = (
  same_number a.env.from from (and_left (a.env.from == from) (a.n == n) is),
  same_number a.n n (and_right (a.env.from == from) (a.n == n) is),
)

numbered_self : (a : Arrival) → is_message a.env.from a.n a ≡ true
numbered_self a = both (a.env.from == a.env.from) (a.n == a.n) (self_true a.env.from) (self_true a.n)

-- none of these pairs has the message of this one
abbrev AreOthers : List Pair → Pair → Type 0
AreOthers pairs pair = AllByRecursion (λ (q : Pair). TwoMessages q pair) pairs

not_found : (pairs : List Pair) (from n : ℕ) (pair : Pair) →
    (pair.arrival.env.from ≡ from) × (pair.arrival.n ≡ n) →
    list_any (is_of_message from n) pairs ≡ false → AreOthers pairs pair
not_found [] from n pair same none = tt
not_found (q ∷ pairs) from n pair same none =
    by_test (is_of_message from n q) refl none (not_found pairs from n pair same)
  where
    by_test : (b : Bool) → is_of_message from n q ≡ b →
        (b || list_any (is_of_message from n) pairs) ≡ false →
        (list_any (is_of_message from n) pairs ≡ false → AreOthers pairs pair) → AreOthers (q ∷ pairs) pair
    by_test true is none later = cc
    by_test false is none later = (
      λ q_from q_n. true≢false
          (sym (both (q.arrival.env.from == from) (q.arrival.n == n) (eq_true _ _ (q_from ∙ same.0))
          (eq_true _ _ (q_n ∙ same.1)))
          ∙ is),
      later none,
    )

-- a free message is in no pair
free_alone : (h : List Event) (pairs : List Pair) (a : Arrival) → is_free h pairs a ≡ true →
    list_any (is_of_message a.env.from a.n) pairs ≡ false
unfolding is_free_message
free_alone h pairs a free =
    not_true (list_any (is_of_message a.env.from a.n) pairs)
    (first_of_three (not (list_any (is_of_message a.env.from a.n) pairs))
    (not (happened (is_claim a.env.from a.n) h)) (not (happened (is_withdraw a.env.from a.n true) h)) free)

-- the message of a new pair is in no pair before
new_apart : (ranks : ℕ) (h : List Event) (w : Happened) (pair : Pair) → Always (NumberAt ranks) h →
    IsRightAt ranks h w → new_pair h (matched_pairs h) w ≡ Some pair → AreOthers (matched_pairs h) pair
new_apart ranks h (Post p line) pair numbers right made =
    let found : List Pair = matched_pairs h in
    let taken = mapped_some (λ (a : Arrival). pair_of p a)
    (first_message h found p.from p.tag p.ctx) pair made in
    let a : Arrival = taken.0 in
    let passes = find_passes (λ a. matches p.from p.tag p.ctx a.env && is_free h found a)
    (messages h) a taken.1 in
    let free = and_right (matches p.from p.tag p.ctx a.env) (is_free h found a) passes in
    subst (AreOthers found) taken.2
    (not_found found a.env.from a.n (pair_of p a) (refl, refl) (free_alone h found a free))
new_apart ranks h (Arrive a) pair numbers right made =
    let found : List Pair = matched_pairs h in
    let taken = mapped_some (λ (p : post.Post). pair_of p a) (first_receive h found a.env) pair made in
    subst (AreOthers found) taken.2
    (all_along _ (λ (q : Pair). TwoMessages q (pair_of taken.0 a)) found
    (λ q came same_from same_n.
    let below = message_below ranks q.arrival.env.from q.arrival.n h numbers came in
    let count : length (arrivals h q.arrival.env.from) ≡ length (arrivals h a.env.from) =
    ap (λ (i : ℕ). length (arrivals h i)) same_from in
    absurd (omega (arith, below, right.numbers.1)))
    (pair_came h))
new_apart ranks h (Match number from n size line) pair numbers right made =
    let found : List Pair = matched_pairs h in
    let taken = mapped_some (λ (a : Arrival). pair_of_claimed number size a)
    (message_of h from n) pair made in
    let a : Arrival = taken.0 in
    let none = not_true (list_any (is_of_message from n) found)
    (and_right (happened (is_claim from n) h) _ right.matches) in
    subst (AreOthers found) taken.2
    (not_found found from n (pair_of_claimed number size a)
    (numbered_parts from n a (find_passes (is_message from n) (messages h) a taken.1)) none)
new_apart ranks h w pair numbers right made = cc

apart_after : (ranks : ℕ) (h events : List Event) → Always (NumberAt ranks) h →
    AllPairs TwoMessages (matched_pairs h) → AreRight ranks h events →
    AllPairs TwoMessages (matched_pairs (h ++ events))
apart_after ranks h [] numbers apart right =
    subst (λ (k : List Event). AllPairs TwoMessages (matched_pairs k)) (sym (append-nil h)) apart
apart_after ranks h (e ∷ events) numbers apart right =
    subst (λ (k : List Event). AllPairs TwoMessages (matched_pairs k)) (append_assoc h (e ∷ []) events)
    (apart_after ranks (h ++ e ∷ []) events
    (AtEach-push (λ before e. NumberAt ranks before e.what) h e numbers right.0.numbers)
    (subst (λ (pairs : List Pair). AllPairs TwoMessages pairs) (sym (matched_pairs-push h e))
    (by_new (new_pair h (matched_pairs h) e.what) refl))
    right.1)
  where
    by_new : (o : Option Pair) → new_pair h (matched_pairs h) e.what ≡ o →
        AllPairs TwoMessages (matched_pairs h ++ option_to_list o)
    by_new None made = rw (append-nil (matched_pairs h)) apart
    by_new (Some pair) made =
        all_pairs_push TwoMessages (matched_pairs h) pair apart
        (All-from_recursion (λ (q : Pair). TwoMessages q pair) (matched_pairs h)
        (new_apart ranks h e.what pair numbers right.0 made))

-- no two pairs have one message
pub pairs_apart : (ranks : ℕ) (h : List Event) → AreRight ranks [] h → AllPairs TwoMessages (matched_pairs h)
unfolding AtEach matched_pairs
pairs_apart ranks h right = apart_after ranks [] h tt (λ i j d lt inside. absurd (omega arith)) right

-- so two receives with one message are the same
pub one_receive : (pairs : List Pair) (k g : ℕ) (p q : Pair) → AllPairs TwoMessages pairs →
    find (is_of_receive k) pairs ≡ Some p → find (is_of_receive g) pairs ≡ Some q →
    is_of_message p.arrival.env.from p.arrival.n q ≡ true → k ≡ g
one_receive [] k g p q apart found_k found_g is = cc
one_receive (x ∷ pairs) k g p q apart found_k found_g is =
    by_tests (is_of_receive k x) (is_of_receive g x) refl refl found_k found_g
    (λ later_k later_g. one_receive pairs k g p q
    (λ i j d lt inside. apart (suc i) (suc j) d (omega arith) (omega arith)) later_k later_g is)
  where
    first : All (λ (y : Pair). TwoMessages x y) pairs
    first = λ j d lt. apart 0 (suc j) d (omega arith) (omega arith)

    same : (q.arrival.env.from ≡ p.arrival.env.from) × (q.arrival.n ≡ p.arrival.n)
    same = numbered_parts p.arrival.env.from p.arrival.n q.arrival is

    by_tests : (b c : Bool) → is_of_receive k x ≡ b → is_of_receive g x ≡ c →
        cond b (Some x) (find (is_of_receive k) pairs) ≡ Some p →
        cond c (Some x) (find (is_of_receive g) pairs) ≡ Some q →
        (find (is_of_receive k) pairs ≡ Some p → find (is_of_receive g) pairs ≡ Some q → k ≡ g) → k ≡ g
    by_tests true true of_k of_g found_k found_g later =
        sym (same_number x.number k of_k) ∙ same_number x.number g of_g
    by_tests true false of_k of_g found_k found_g later =
        let x_is : x ≡ p = cc in
        let two = find_among (λ (y : Pair). TwoMessages x y) (is_of_receive g) pairs q first found_g in
        absurd (two (ap (λ (y : Pair). y.arrival.env.from) x_is ∙ sym same.0)
        (ap (λ (y : Pair). y.arrival.n) x_is ∙ sym same.1))
    by_tests false true of_k of_g found_k found_g later =
        let x_is : x ≡ q = cc in
        let two = find_among (λ (y : Pair). TwoMessages x y) (is_of_receive k) pairs p first found_k in
        absurd (two (ap (λ (y : Pair). y.arrival.env.from) x_is ∙ same.0)
        (ap (λ (y : Pair). y.arrival.n) x_is ∙ same.1))
    by_tests false false of_k of_g found_k found_g later = later found_k found_g

-- the first of these messages of this one's rank and number
abbrev first_as : List Arrival → Arrival → Option Arrival
first_as as' a = find (is_message a.env.from a.n) as'

-- each of these messages is the first of its rank and number
abbrev AreNamed : List Arrival → Type 0
AreNamed as' = AllByRecursion (λ (a : Arrival). first_as as' a ≡ Some a) as'

-- behind these messages and one more, the first is found among these, if it is
first-push : (as' : List Arrival) (a b : Arrival) (o : Option Arrival) → first_as as' b ≡ o →
    first_as (as' ++ a ∷ []) b ≡ option_or o (first_as (a ∷ []) b)
first-push as' a b o is =
    find-append (is_message b.env.from b.n) as' (a ∷ [])
    ∙ ap (λ (o : Option Arrival). option_or o (first_as (a ∷ []) b)) is

named_push : (as' : List Arrival) (o : Option Arrival) → AreNamed as' →
    ((a : Arrival) → o ≡ Some a → list_any (is_message a.env.from a.n) as' ≡ false) →
    AreNamed (as' ++ cons_option o [])
named_push as' None named new = rw (append-nil as') named
named_push as' (Some a) named new =
    all_append _ as' (a ∷ [])
    (all_along _ (λ (b : Arrival). first_as (as' ++ a ∷ []) b ≡ Some b) as'
    (λ b is. first-push as' a b (Some b) is) named) (
      first-push as' a a None (find_nothing _ as' (new a refl))
          ∙ ap (λ (b : Bool). cond b (Some a) None) (numbered_self a),
      tt,
    )

named_after : (ranks : ℕ) (h events : List Event) → Always (NumberAt ranks) h → AreNamed (messages h) →
    AtEachAfter (λ before e. NumberAt ranks before e.what) h events → AreNamed (messages (h ++ events))
named_after ranks h [] numbers named each =
    subst (λ (k : List Event). AreNamed (messages k)) (sym (append-nil h)) named
named_after ranks h (e ∷ events) numbers named each =
    subst (λ (k : List Event). AreNamed (messages k)) (append_assoc h (e ∷ []) events)
    (named_after ranks (h ++ e ∷ []) events
    (AtEach-push (λ before e. NumberAt ranks before e.what) h e numbers each.0)
    (subst AreNamed (sym (messages-push h e))
    (named_push (messages h) (arrival_of e.what) named (by_what e.what each.0)))
    each.1)
  where
    by_what : (w : Happened) → NumberAt ranks h w → (a : Arrival) → arrival_of w ≡ Some a →
        list_any (is_message a.env.from a.n) (messages h) ≡ false
    by_what (Arrive b) number a is =
        let same : b ≡ a = cc in
        let next : a.n ≡ length (arrivals h a.env.from) =
        subst (λ (x : Arrival). x.n ≡ length (arrivals h x.env.from)) same number.1 in
        refuted _ (λ came.
        absurd (omega (arith, next, message_below ranks a.env.from a.n h numbers came)))
    by_what w number a is = cc

-- the message of a pair is the one of its rank and number
pub pairs_named : (ranks : ℕ) (h : List Event) → AreRight ranks [] h →
    AllByRecursion (λ (pair : Pair). first_as (messages h) pair.arrival ≡ Some pair.arrival) (matched_pairs h)
unfolding AtEach
pairs_named ranks h right =
    pairs_came (λ (a : Arrival). first_as (messages h) a ≡ Some a) h
    (named_after ranks [] h tt tt (right-numbers ranks h right))
