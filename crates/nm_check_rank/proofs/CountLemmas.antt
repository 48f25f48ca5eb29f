-- What is counted of a history, one event after another.
use Rattle.std.proofs.Common.{◌≡◌, ℕ, ◌+◌, ◌-◌, ◌^◌, ◌<◌, ◌≤◌, ◌==◌, Bool, true, false, cond, Option, Some, None}
use Rattle.std.proofs.Common.{List, [], ◌∷◌, ◌++◌}
use Rattle.std.proofs.Common.{length, set, get_or, min, refl, sym, ◌∙◌, ap, subst, arith, length-append}
use Rattle.std.specs.List.{cons_option, filter, filter_map}
use Rattle.std.proofs.lemmas.Bool.Decides.{nat_tests}
use Rattle.std.proofs.lemmas.Grind.{get_or-set_at}
use Rattle.std.proofs.lemmas.List.{get_or-set_other}
use Rattle.std.proofs.lemmas.List.Sums.{count_by-le-length, length-filter}
use Rattle.nm_types.specs.declared.messages.Arrival.{Arrival}
use Rattle.nm_types.specs.declared.messages.How.{How}
use Rattle.nm_types.specs.declared.messages.Post.{Post}
use Rattle.nm_history.specs.declared.events.Event.{Event}
use Rattle.nm_history.specs.declared.events.Happened.{Happened}
use Rattle.nm_history.specs.declared.events.Happened.TheVariants as happened
use Rattle.nm_history.specs.Sends.{Sent, Arrived, sends, sent_of, arrivals, arrived_of, receives, receive_of}
use Rattle.nm_lookups.specs.Deciding.{Decides}
use Rattle.nm_history.proofs.DeliveryLemmas.{sends-push}
use Rattle.nm_history.proofs.OnceLemmas.{arrivals-push}
use Rattle.nm_check_rank.proofs.DecideLemmas.{decides_nat}

few_pass : {X : Type 0} (p : X → Bool) (xs : List X) → length (filter p xs) ≤ length xs
few_pass p xs = rw length-filter (count_by-le-length p xs)

few_given_at : {X Y : Type 0} (o : Option Y) (x : X) (xs : List X) (ys : List Y) → length ys ≤ length xs →
    length (cons_option o ys) ≤ length (x ∷ xs)
few_given_at None x xs ys few = omega (arith, few)
few_given_at (Some y) x xs ys few = omega (arith, few)

pub few_given : {X Y : Type 0} (f : X → Option Y) (xs : List X) → length (filter_map f xs) ≤ length xs
few_given f [] = omega arith
few_given f (x ∷ xs) = few_given_at (f x) x xs (filter_map f xs) (few_given f xs)

-- the sends to a rank, the arrivals from one and the receives are at most as many as the events
pub few_sends : (h : List Event) (to : ℕ) → length (sends h to) ≤ length h
few_sends h to =
    let all = few_given (λ (e : Event). sent_of e.stamp e.what) h in
    let some = few_pass (λ (s : Sent). s.to == to) (filter_map (λ (e : Event). sent_of e.stamp e.what) h) in
    omega (arith, all, some)

pub few_arrivals : (h : List Event) (from : ℕ) → length (arrivals h from) ≤ length h
few_arrivals h from =
    let all = few_given (λ (e : Event). arrived_of e.stamp e.what) h in
    let some = few_pass (λ (a : Arrived). a.arrival.env.from == from)
    (filter_map (λ (e : Event). arrived_of e.stamp e.what) h) in
    omega (arith, all, some)

pub few_receives : (h : List Event) → length (receives h) ≤ length h
few_receives h = few_given (λ (e : Event). receive_of e.what) h

-- one more, or none
one_if : {X : Type 0} (x : X) (b : Bool) → length (cond b (x ∷ []) []) ≡ cond b 1 0
one_if x true = refl
one_if x false = refl

pub sends_count : (h : List Event) (e : Event) (s : Sent) (to : ℕ) → sent_of e.stamp e.what ≡ Some s →
    length (sends (h ++ e ∷ []) to) ≡ length (sends h to) + cond (s.to == to) 1 0
sends_count h e s to is =
    ap length (sends-push h e to ∙ rw is refl) ∙ length-append (sends h to) (cond (s.to == to) (s ∷ []) [])
    ∙ ap (λ (n : ℕ). length (sends h to) + n) (one_if s (s.to == to))

pub sends_same : (h : List Event) (e : Event) (to : ℕ) → sent_of e.stamp e.what ≡ None →
    length (sends (h ++ e ∷ []) to) ≡ length (sends h to)
sends_same h e to is = ap length (sends-push h e to ∙ rw is refl) ∙ length-append (sends h to) [] ∙ omega arith

pub arrivals_count : (h : List Event) (e : Event) (a : Arrived) (from : ℕ) → arrived_of e.stamp e.what ≡ Some a →
    length (arrivals (h ++ e ∷ []) from) ≡ length (arrivals h from) + cond (a.arrival.env.from == from) 1 0
arrivals_count h e a from is =
    ap length (arrivals-push h e from ∙ rw is refl)
    ∙ length-append (arrivals h from) (cond (a.arrival.env.from == from) (a ∷ []) [])
    ∙ ap (λ (n : ℕ). length (arrivals h from) + n) (one_if a (a.arrival.env.from == from))

pub arrivals_same : (h : List Event) (e : Event) (from : ℕ) → arrived_of e.stamp e.what ≡ None →
    length (arrivals (h ++ e ∷ []) from) ≡ length (arrivals h from)
arrivals_same h e from is = ap length (arrivals-push h e from ∙ rw is refl) ∙ length-append (arrivals h from) []
    ∙ omega arith

counted_at : (xs : List ℕ) (i k n more : ℕ) (b : Bool) → (i == k) ≡ b → i < length xs → get_or xs k 0 ≡ n →
    n < 2 ^ 64 - 1 →
    more ≡ min (get_or xs i 0 + 1) (2 ^ 64 - 1) → get_or (set xs i more) k 0 ≡ n + cond b 1 0
counted_at xs i k n more true at inside is small one =
    let same : i ≡ k = grind (arith, nat_tests) in
    get_or-set_at xs i k more 0 (sym same) inside
    ∙ one ∙ subst (λ (j : ℕ). min (get_or xs j 0 + 1) (2 ^ 64 - 1) ≡ n + 1) (sym same)
    (let low = is in omega (arith, low, small))
counted_at xs i k n more false at inside is small one =
    get_or-set_other xs i k more 0 (λ same. let e : (i == k) ≡ true = grind (arith, nat_tests) in cc) ∙ is ∙ omega arith

-- a count that goes up by one at one place
pub counted_more : (xs : List ℕ) (i k n more : ℕ) → i < length xs → get_or xs k 0 ≡ n → n < 2 ^ 64 - 1 →
    more ≡ min (get_or xs i 0 + 1) (2 ^ 64 - 1) → get_or (set xs i more) k 0 ≡ n + cond (i == k) 1 0
counted_more xs i k n more inside is small one = counted_at xs i k n more (i == k) refl inside is small one

-- an event that is no send, no arrival, no receive
pub no_send : (stamp : ℕ) (what : Happened) →
    ((to n tag ctx len : ℕ) (how : How) (line : ℕ) → what ≡ happened.Send to n tag ctx len how line → ⊥) →
    sent_of stamp what ≡ None
no_send stamp (happened.Send to n tag ctx len how line) not = absurd (not to n tag ctx len how line refl)
no_send stamp what not = refl

pub no_arrival : (stamp : ℕ) (what : Happened) → ((a : Arrival) → what ≡ happened.Arrive a → ⊥) →
    arrived_of stamp what ≡ None
no_arrival stamp (happened.Arrive a) not = absurd (not a refl)
no_arrival stamp what not = refl

pub no_receive : (what : Happened) → ((p : Post) (line : ℕ) → what ≡ happened.Post p line → ⊥) →
    ((number from n cap line : ℕ) → what ≡ happened.Match number from n cap line → ⊥) → receive_of what ≡ None
no_receive (happened.Post p line) not other = absurd (not p line refl)
no_receive (happened.Match number from n cap line) not other = absurd (other number from n cap line refl)
no_receive what not other = refl

-- an event that is a receive, and so no send and no arrival
abbrev pub IsReceive : Happened → Type 0
IsReceive w =
    ((stamp : ℕ) → sent_of stamp w ≡ None) × ((stamp : ℕ) → arrived_of stamp w ≡ None)
    × (number : ℕ) × (receive_of w ≡ Some number)

pub a_post : (w : Happened) (p : Post) (line : ℕ) → w ≡ happened.Post p line → IsReceive w
a_post w p line is =
    subst (λ (x : Happened). IsReceive x) (sym is) ((λ stamp. refl), (λ stamp. refl), p.number, refl)

pub a_match : (w : Happened) (number from n cap line : ℕ) → w ≡ happened.Match number from n cap line → IsReceive w
a_match w number from n cap line is =
    subst (λ (x : Happened). IsReceive x) (sym is) ((λ stamp. refl), (λ stamp. refl), number, refl)

-- two counts are compared
pub counts_decided : (a b m n : ℕ) → a ≡ m → b ≡ n → Decides (a == b) (m ≡ n)
counts_decided a b m n first second =
    subst (λ (x : ℕ). Decides (a == b) (x ≡ n)) first
    (subst (λ (y : ℕ). Decides (a == b) (a ≡ y)) second (decides_nat a b))
