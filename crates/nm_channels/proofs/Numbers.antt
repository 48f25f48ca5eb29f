-- Sends and arrivals have the numbers of their places, and each arrival its send.
use Rattle.std.proofs.Common.{◌≡◌, ℕ, zero, suc, ◌+◌, ◌<◌, ◌≤◌, ◌==◌, Bool, true, false, cond, Some, List, [], ◌∷◌}
use Rattle.std.proofs.Common.{◌++◌, length, refl, sym, ◌∙◌, ap, subst, append_assoc, length-append, arith}
use Rattle.std.specs.List.{AllByRecursion, Contains, filter, filter_map, cons_option, slice_get}
use Rattle.std.proofs.Common.{inl, inr}
use Rattle.std.proofs.lemmas.List.Elements.{All-contains, All-from_recursion, All-weaker, recursion_from_All}
use Rattle.nm_types.specs.declared.messages.Arrival.{Arrival}
use Rattle.nm_history.specs.declared.events.Event.{Event}
use Rattle.nm_history.specs.declared.events.Happened.{Happened}
use Rattle.nm_history.specs.declared.events.Happened.TheVariants.{Send, Arrive}
use Rattle.nm_history.specs.declared.plain.Pair.{Pair}
use Rattle.nm_history.specs.AtEach.{AtEach, AtEachAfter}
use Rattle.nm_history.specs.Sends.{Sent, sends, Arrived, arrivals, arrived_of, arrival_of, messages, envelope}
use Rattle.nm_history.specs.Delivery.{ArriveInOrder}
use Rattle.nm_history.specs.Matching.{matched_pairs}
use Rattle.nm_history.specs.Once.{IsOfReceive}
use Rattle.nm_history.specs.RankRun.{Always, NumberAt}
use Rattle.nm_history.proofs.OnceLemmas.{arrivals-push}
use Rattle.nm_history.proofs.SelectionLemmas.{matched_pairs_of_receives}
use Rattle.nm_history.proofs.Sent.{filter-cons, sends-cons, NumberedFrom, next_numbers, new_sends, sends_numbered}
use Rattle.nm_types.proofs.NumberLemmas.{eq_true, same_number}

-- the arrivals of an event
abbrev new_arrivals : ℕ → ℕ → Happened → List Arrived
new_arrivals i stamp w = filter (λ a. a.arrival.env.from == i) (cons_option (arrived_of stamp w) [])

pub arrivals-cons : (e : Event) (events : List Event) (i : ℕ) → arrivals (e ∷ events) i ≡ new_arrivals i e.stamp
    e.what ++ arrivals events i
arrivals-cons e events i = filter-cons (λ (a : Arrived). a.arrival.env.from == i) (arrived_of e.stamp e.what)
    (filter_map (λ (e : Event). arrived_of e.stamp e.what) events)

arrival_number : (ranks i stamp : ℕ) (b : List Event) (w : Happened) → NumberAt ranks b w →
    NumberedFrom (λ (x : Arrived). x.arrival.n) (length (arrivals b i)) (new_arrivals i stamp w)
arrival_number ranks i stamp b (Arrive a) number = by_from (a.env.from == i) refl where
  by_from : (x : Bool) → (a.env.from == i) ≡ x → NumberedFrom (λ (x : Arrived). x.arrival.n) (length (arrivals b i))
      (cond x (record { stamp = stamp; arrival = a } ∷ []) [])
  by_from true test = (number.1 ∙ ap (λ (k : ℕ). length (arrivals b k)) (same_number a.env.from i test), tt)
  by_from false test = tt
arrival_number ranks i stamp b w number = tt

arrivals_from : (ranks i : ℕ) (b xs : List Event) → AtEachAfter (λ before e. NumberAt ranks before e.what) b xs →
    NumberedFrom (λ (x : Arrived). x.arrival.n) (length (arrivals b i)) (arrivals xs i)
arrivals_from ranks i b [] each = tt
arrivals_from ranks i b (e ∷ xs) each =
    let count : length (arrivals (b ++ e ∷ []) i) ≡ length (arrivals b i) + length (new_arrivals i e.stamp e.what) =
    ap (λ (as' : List Arrived). length as') (arrivals-push b e i) ∙ length-append (arrivals b i)
    (new_arrivals i e.stamp e.what) in
    subst (λ (as' : List Arrived). NumberedFrom (λ (x : Arrived). x.arrival.n) (length (arrivals b i)) as')
    (sym (arrivals-cons e xs i))
    (next_numbers (λ (x : Arrived). x.arrival.n) (length (arrivals b i)) (new_arrivals i e.stamp e.what)
    (arrivals xs i) (arrival_number ranks i e.stamp b e.what each.0)
    (subst (λ (k : ℕ). NumberedFrom (λ (x : Arrived). x.arrival.n) k (arrivals xs i)) count
    (arrivals_from ranks i (b ++ e ∷ []) xs each.1)))

-- the arrivals from a rank are numbered from 0
pub arrivals_numbered : (ranks i : ℕ) (h : List Event) → Always (NumberAt ranks) h →
    NumberedFrom (λ (x : Arrived). x.arrival.n) 0 (arrivals h i)
unfolding AtEach
arrivals_numbered ranks i h numbers = arrivals_from ranks i [] h numbers

-- an arrived message is the send of its number, which came before this stamp
pub record SentAs (i : ℕ) (ss : List Sent) (stamp : ℕ) (a : Arrival) : Type 0 where
  pub sent : Sent
  pub at : slice_get ss a.n ≡ Some sent
  pub number : sent.n ≡ a.n
  pub same : a.env ≡ envelope i sent
  pub earlier : sent.stamp < stamp

pub at_seam : {X : Type 0} (xs : List X) (x : X) (ys : List X) → slice_get (xs ++ x ∷ ys) (length xs) ≡ Some x
at_seam [] x ys = refl
at_seam (y ∷ xs) x ys = at_seam xs x ys

sent_each : (i : ℕ) (all before ss : List Sent) (as' : List Arrived) → all ≡ before ++ ss → ArriveInOrder i ss as' →
    NumberedFrom (λ (x : Arrived). x.arrival.n) (length before) as' → NumberedFrom (λ (s : Sent). s.n)
    (length before) ss →
    AllByRecursion (λ (x : Arrived). SentAs i all x.stamp x.arrival) as'
sent_each i all before ss [] same in_order numbered sent = tt
sent_each i all before [] (x ∷ as') same in_order numbered sent = absurd in_order
sent_each i all before (s ∷ ss) (x ∷ as') same in_order numbered sent =
    let longer : length (before ++ s ∷ []) ≡ length before + 1 = length-append before (s ∷ []) in (
      record {
        sent = s;
        at = rw (numbered.0, same) (at_seam before s ss);
        number = sent.0 ∙ sym numbered.0;
        same = in_order.0;
        earlier = in_order.1;
      },
      sent_each i all (before ++ s ∷ []) ss as' (same ∙ sym (append_assoc before (s ∷ []) ss)) in_order.2
          (subst (λ (k : ℕ). NumberedFrom (λ (x : Arrived). x.arrival.n) k as') (sym longer) numbered.1)
          (subst (λ (k : ℕ). NumberedFrom (λ (s : Sent). s.n) k ss) (sym longer) sent.1),
    )

-- each arrival is the send of its number
pub arrivals_sent : (ranks i j : ℕ) (hi hj : List Event) → Always (NumberAt ranks) hi → Always (NumberAt ranks) hj →
    ArriveInOrder i (sends hi j) (arrivals hj i) →
    AllByRecursion (λ (x : Arrived). SentAs i (sends hi j) x.stamp x.arrival) (arrivals hj i)
arrivals_sent ranks i j hi hj numbers_i numbers_j in_order =
    sent_each i (sends hi j) [] (sends hi j) (arrivals hj i) refl in_order (arrivals_numbered ranks i hj numbers_j)
    (sends_numbered ranks j hi numbers_i)

-- so is each message that came by a stamp
abbrev pub SentBefore : ℕ → List Sent → ℕ → Arrival → Type 0
SentBefore i ss stamp a = a.env.from ≡ i → SentAs i ss stamp a

pub messages_sent : (i stamp : ℕ) (ss : List Sent) (h : List Event) → AllByRecursion (λ e. e.stamp ≤ stamp) h →
    AllByRecursion (λ (x : Arrived). SentAs i ss x.stamp x.arrival) (arrivals h i) →
    AllByRecursion (SentBefore i ss stamp) (messages h)
messages_sent i stamp ss [] late each = tt
messages_sent i stamp ss (e ∷ h) late each =
    by_what e.what (messages_sent i stamp ss h late.1)
    (subst (λ (as' : List Arrived). AllByRecursion (λ (x : Arrived). SentAs i ss x.stamp x.arrival) as')
    (arrivals-cons e h i) each)
  where
    by_what : (w : Happened) → (AllByRecursion (λ (x : Arrived). SentAs i ss x.stamp x.arrival) (arrivals h i) →
        AllByRecursion (SentBefore i ss stamp) (messages h)) →
        AllByRecursion (λ (x : Arrived). SentAs i ss x.stamp x.arrival) (new_arrivals i e.stamp w ++ arrivals h i) →
        AllByRecursion (SentBefore i ss stamp) (cons_option (arrival_of w) (messages h))
    by_what (Arrive a) later each = by_from (a.env.from == i) refl each where
      by_from : (x : Bool) → (a.env.from == i) ≡ x → AllByRecursion (λ (x : Arrived). SentAs i ss x.stamp x.arrival)
          (cond x (record { stamp = e.stamp; arrival = a } ∷ []) [] ++ arrivals h i) →
          SentBefore i ss stamp a × AllByRecursion (SentBefore i ss stamp) (messages h)
      by_from true test each =
          let is = each.0 in (
            (λ source. record {
              sent = is.sent;
              at = is.at;
              number = is.number;
              same =
                  is.same;
              earlier = omega (arith, is.earlier, late.0);
            }),
            later each.1,
          )
      by_from false test each =
          ((λ source. let bad : true ≡ false = sym (eq_true a.env.from i source) ∙ test in cc), later each)
    by_what w later each = later each

-- what holds of the messages that came holds of those of the pairs
pub pairs_came : (P : Arrival → Type 0) (h : List Event) → AllByRecursion P (messages h) →
    AllByRecursion (λ (pair : Pair). P pair.arrival) (matched_pairs h)
pairs_came P h each =
    recursion_from_All (λ (pair : Pair). P pair.arrival) (matched_pairs h)
    (All-weaker (IsOfReceive h) (λ (pair : Pair). P pair.arrival)
    (λ pair is. All-contains P (messages h) pair.arrival (All-from_recursion P (messages h) each) (came pair is))
    (matched_pairs h) (matched_pairs_of_receives h))
  where
    came : (pair : Pair) → IsOfReceive h pair → Contains (messages h) pair.arrival
    came pair (inl is) = is.came
    came pair (inr is) = is.came

-- the event of a send
pub record SentIn (h : List Event) (s : Sent) : Type 0 where
  pub before : List Event
  pub event : Event
  pub after : List Event
  pub split : h ≡ before ++ event ∷ after
  pub stamp : event.stamp ≡ s.stamp
  pub what : event.what ≡ Send s.to s.n s.tag s.ctx s.len s.how s.line

send_event : (whole before h : List Event) (j k : ℕ) (s : Sent) → whole ≡ before ++ h →
    slice_get (sends h j) k ≡ Some s → SentIn whole s × (s.to ≡ j)
send_event whole before [] j k s same found = cc
send_event whole before (e ∷ h) j k s same found =
    by_what e.what refl (λ k found. send_event whole (before ++ e ∷ []) h j k s
    (same ∙ sym (append_assoc before (e ∷ []) h)) found) k
    (ap (λ (ss : List Sent). slice_get ss k) (sym (sends-cons e h j)) ∙ found)
  where
    by_what : (w : Happened) → e.what ≡ w →
        ((k : ℕ) → slice_get (sends h j) k ≡ Some s → SentIn whole s × (s.to ≡ j)) →
        (k : ℕ) → slice_get (new_sends j e.stamp w ++ sends h j) k ≡ Some s → SentIn whole s × (s.to ≡ j)
    by_what (Send to n tag ctx len how line) is later k found = by_to (to == j) refl k found where
      first : Sent
      first = record { stamp = e.stamp; to = to; n = n; tag = tag; ctx = ctx; len = len; how = how; line = line }

      by_to : (x : Bool) → (to == j) ≡ x → (k : ℕ) → slice_get (cond x (first ∷ []) [] ++ sends h j) k ≡ Some s →
          SentIn whole s × (s.to ≡ j)
      by_to true test zero found =
          let is_first : first ≡ s = cc in
          subst (λ (s : Sent). SentIn whole s × (s.to ≡ j)) is_first (
            record { before = before; event = e; after = h; split = same; stamp = refl; what = is },
            same_number to j
                test,
          )
      by_to true test (suc k) found = later k found
      by_to false test k found = later k found
    by_what w is later k found = later k found

-- the send at a place stands in the history
pub send_at : (h : List Event) (j k : ℕ) (s : Sent) → slice_get (sends h j) k ≡ Some s → SentIn h s × (s.to ≡ j)
send_at h j k s found = send_event h [] h j k s refl found
