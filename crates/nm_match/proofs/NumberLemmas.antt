-- Where receives and arrivals are numbered in order, those below their count are known.
use Rattle.std.proofs.Common.{◌≡◌, ℕ, ◌+◌, ◌==◌, Bool, true, false, ◌&&◌, ◌||◌, cond, ltb, List, []}
use Rattle.std.proofs.Common.{◌∷◌, ◌++◌, length, refl, sym, ◌∙◌, ap, subst, arith, append-nil}
use Rattle.std.proofs.Common.{append_assoc, length-append}
use Rattle.std.proofs.Math.Bool.{or-false}
use Rattle.std.specs.List.{cons_option, filter, list_any}
use Rattle.std.proofs.lemmas.Bool.{eqb-true}
use Rattle.std.proofs.lemmas.Bool.Decides.{nat_tests}
use Rattle.nm_history.specs.declared.events.Event.{Event}
use Rattle.nm_history.specs.declared.events.Happened.{Happened}
use Rattle.nm_history.specs.declared.events.Happened.TheVariants.{Post, Arrive, Match}
use Rattle.nm_history.specs.AtEach.{AtEach, AtEachAfter}
use Rattle.nm_history.specs.Happens.{happened, is_arrival}
use Rattle.nm_history.specs.RankRun.{Always, NumberAt}
use Rattle.nm_history.specs.Sends.{Arrived, arrival_of, arrivals, arrived_of, messages, receive_of, receives}
use Rattle.nm_history.proofs.OnceLemmas.{arrivals-push, receives-push}
use Rattle.nm_match.specs.Deeds.{is_known_message, is_known_receive, is_message}
use Rattle.nm_match.proofs.PushLemmas.{is_known_message-push, is_known_receive-push}

-- the receives that are known, and the messages of each rank
record Numbered (h : List Event) : Type 0 where
  received : (number : ℕ) → is_known_receive h number ≡ ltb number (length (receives h))
  came : (from n : ℕ) → is_known_message h from n ≡ ltb n (length (arrivals h from))

next_below : (next number : ℕ) → (ltb number next || (next == number || false)) ≡ ltb number (next + 1)
next_below next number = grind (arith, nat_tests)

received_push : (ranks : ℕ) (h : List Event) (what : Happened) (number : ℕ) → NumberAt ranks h what →
    is_known_receive h number ≡ ltb number (length (receives h)) →
    (is_known_receive h number || list_any (λ m. m == number) (cons_option (receive_of what) []))
    ≡ ltb number (length (receives h ++ cons_option (receive_of what) []))
received_push ranks h (Post p line) number numbered known =
    rw (known, numbered, length-append (receives h) (length (receives h) ∷ []))
    (next_below (length (receives h)) number)
received_push ranks h (Match m from n cap line) number numbered known =
    rw (known, numbered, length-append (receives h) (length (receives h) ∷ []))
    (next_below (length (receives h)) number)
received_push ranks h what number _ known = rw (append-nil (receives h)) (or-false _ ∙ known)

came_at : (of_rank : Bool) (next n : ℕ) (was : List Arrived) (new : Arrived) →
    (of_rank ≡ true → length was ≡ next) → (ltb n (length was) || ((of_rank && next == n) || false))
    ≡ ltb n (length (was ++ cond of_rank (new ∷ []) []))
came_at true next n was new long = let same : length was ≡ next = long refl in
    rw (length-append was (new ∷ []), same) (next_below next n)
came_at false next n was new long = rw (append-nil was) (or-false _)

came_push : (ranks : ℕ) (h : List Event) (stamp : ℕ) (what : Happened) (from n : ℕ) → NumberAt ranks h what →
    is_known_message h from n ≡ ltb n (length (arrivals h from)) →
    (is_known_message h from n || list_any (is_message from n) (cons_option (arrival_of what) []))
    ≡ ltb n (length (arrivals h from ++ filter (λ a. a.arrival.env.from == from)
    (cons_option (arrived_of stamp what) [])))
came_push ranks h stamp (Arrive a) from n numbered known =
    rw known (came_at (a.env.from == from) a.n n (arrivals h from) (record { stamp = stamp; arrival = a })
    (λ same. ap (λ i. length (arrivals h i)) (sym (eqb-true a.env.from from same)) ∙ sym numbered.1))
came_push ranks h stamp what from n _ known = rw (append-nil (arrivals h from)) (or-false _ ∙ known)

numbered_push : (ranks : ℕ) (h : List Event) (e : Event) → Numbered h → NumberAt ranks h e.what →
    Numbered (h ++ e ∷ [])
numbered_push ranks h e numbered next = record {
  received = λ number. is_known_receive-push h e number
      ∙ rw (receives-push h e) (received_push ranks h e.what number next (numbered.received number));
  came = λ from n. is_known_message-push h e from n
      ∙ rw (arrivals-push h e from) (came_push ranks h e.stamp e.what from n next (numbered.came from n));
}

numbered_after : (ranks : ℕ) (h events : List Event) → Numbered h →
    AtEachAfter (λ before e. NumberAt ranks before e.what) h events → Numbered (h ++ events)
numbered_after ranks h [] numbered next = subst (λ (k : List Event). Numbered k) (sym (append-nil h)) numbered
numbered_after ranks h (e ∷ events) numbered next =
    subst (λ (k : List Event). Numbered k) (append_assoc h (e ∷ []) events)
    (numbered_after ranks (h ++ e ∷ []) events (numbered_push ranks h e numbered next.0) next.1)

numbered_all : (ranks : ℕ) (h : List Event) → Always (NumberAt ranks) h → Numbered h
unfolding AtEach is_known_message is_known_receive
numbered_all ranks h numbers = numbered_after ranks [] h
    (record {
      received = λ number. grind (arith, nat_tests);
      came = λ from n. grind (arith, nat_tests);
    }) numbers

-- the receives below their count are known
pub receives_numbered : (ranks : ℕ) (h : List Event) → Always (NumberAt ranks) h → (number : ℕ) →
    is_known_receive h number ≡ ltb number (length (receives h))
receives_numbered ranks h numbers = (numbered_all ranks h numbers).received

-- the messages of a rank below their count are known
pub messages_numbered : (ranks : ℕ) (h : List Event) → Always (NumberAt ranks) h → (from n : ℕ) →
    is_known_message h from n ≡ ltb n (length (arrivals h from))
messages_numbered ranks h numbers = (numbered_all ranks h numbers).came

arrived_at : (h : List Event) (from n : ℕ) (what : Happened) →
    list_any (is_message from n) (messages h) ≡ happened (is_arrival from n) h →
    list_any (is_message from n) (cons_option (arrival_of what) (messages h))
    ≡ (is_arrival from n what || happened (is_arrival from n) h)
arrived_at h from n (Arrive a) rest = ap (λ b. is_message from n a || b) rest
arrived_at h from n what rest = rest

-- a message is known where it arrived
pub is_known_message-arrived : (h : List Event) (from n : ℕ) →
    is_known_message h from n ≡ happened (is_arrival from n) h
unfolding is_known_message
is_known_message-arrived [] from n = refl
is_known_message-arrived (e ∷ h) from n = arrived_at h from n e.what (is_known_message-arrived h from n)
