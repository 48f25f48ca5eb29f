-- The queues of a matcher after each call.
use Rattle.std.proofs.Common.{◌≡◌, ℕ, ◌==◌, Bool, true, false, not, ◌&&◌, ◌||◌, cond, Option, Some, None, is_some}
use Rattle.std.proofs.Common.{List, [], ◌∷◌, ◌++◌, refl, sym, ◌∙◌, ap, subst, inl, inr, arith}
use Rattle.std.specs.List.{filter, find, list_any}
use Rattle.std.specs.Option.{option_map, option_to_list}
use Rattle.std.proofs.lemmas.Bool.{eqb-true, false≢true, or_cases}
use Rattle.std.proofs.lemmas.List.{map-append}
use Rattle.nm_types.specs.declared.messages.Arrival.{Arrival}
use Rattle.nm_types.specs.declared.messages.Envelope.{Envelope}
use Rattle.nm_types.specs.declared.messages.Peer.{Peer}
use Rattle.nm_types.specs.declared.messages.TagPick.{TagPick}
use Rattle.nm_types.specs.declared.messages.Post as post
use Rattle.nm_history.specs.declared.events.Event.{Event}
use Rattle.nm_history.specs.declared.plain.Pair.{Pair}
use Rattle.nm_history.specs.Sends.{messages, posts, message_of}
use Rattle.nm_history.specs.Selection.{matches}
use Rattle.nm_history.specs.Happens.{happened, is_cancel, is_claim, is_withdraw}
use Rattle.nm_history.specs.Matching.{first_message, first_receive, is_claimed, is_free, is_free_message}
use Rattle.nm_history.specs.Matching.{is_of_message, is_of_receive, is_open, matched_pairs, new_pair, pair_of}
use Rattle.nm_history.specs.Matching.{pair_of_claimed}
use Rattle.nm_history.proofs.MatchingLemmas.{matched_pairs-push}
use Rattle.nm_history.proofs.OnceLemmas.{find_among}
use Rattle.nm_match.specs.declared.deeds.Deed.{Deed}
use Rattle.nm_match.specs.declared.deeds.Deed.TheVariants as deed
use Rattle.nm_match.specs.Deeds.{event_of, history_of, is_deed_of_message, is_deed_of_receive}
use Rattle.nm_match.specs.Deeds.{is_known_message, is_known_receive, is_message}
use Rattle.nm_match.specs.Queues.{AreQueues, AreQueuesOf, without_first}
use Rattle.nm_match.proofs.ListLemmas.{find-filter, without_first-none}
use Rattle.nm_match.proofs.QueueLemmas.{open_means, posted_open, unexpected_free}
use Rattle.nm_match.proofs.EventLemmas.{arrived_alone, arrived_taking, posted_alone, posted_taking}
use Rattle.nm_match.proofs.StepLemmas.{cancelled_one, claimed_one, received_one, withdrawn_one}
use Rattle.nm_types.proofs.ListLemmas.{find_passes, find_some}
use Rattle.nm_types.proofs.TruthLemmas.{and_left, and_right}

pub history_of-push : (deeds : List Deed) (d : Deed) →
    history_of (deeds ++ d ∷ []) ≡ history_of deeds ++ event_of d ∷ []
unfolding history_of
history_of-push deeds d = map-append (λ (d : Deed). event_of d) deeds (d ∷ [])

-- a deed more, with the pair that it makes
deed-push : {posted : List post.Post} {unexpected claimed : List Arrival} {cancelled : List ℕ}
    (deeds : List Deed) (d : Deed) (made : Option Pair) →
    new_pair (history_of deeds) (matched_pairs (history_of deeds)) (event_of d).what ≡ made →
    AreQueues (history_of deeds ++ event_of d ∷ [])
    (matched_pairs (history_of deeds) ++ option_to_list made) posted unexpected claimed cancelled →
    AreQueuesOf (deeds ++ d ∷ []) posted unexpected claimed cancelled
deed-push deeds d made same queues = rw (
  history_of-push deeds d,
  matched_pairs-push (history_of deeds) (event_of d),
  same,
) queues

-- the queues of a matcher that did nothing
pub queues-none : AreQueuesOf [] [] [] [] []
unfolding history_of is_free_message is_known_message is_known_receive matched_pairs
queues-none = record {
  in_turn = record {
    two_receives = λ i j d below inside. absurd (omega arith);
    two_messages = λ i j d below inside. absurd (omega arith);
    paired_known = λ number never. absurd (false≢true never);
    cancelled_known = λ number never. absurd (false≢true never);
    taken_came = λ from n never. absurd (false≢true never);
    claimed_came = λ from n never. absurd (false≢true never);
    withdrawn_came = λ from n never. absurd (false≢true never);
    cancelled_unpaired = λ number never. absurd (false≢true never);
    posted_or_paired = λ number never. absurd (false≢true never);
  };
  open_receives = refl;
  free_messages = refl;
  claimed_messages = λ from n. refl;
  cancelled_receives = λ number. refl;
}

module _ {h : List Event} {found : List Pair} {posted : List post.Post}
    {unexpected claimed : List Arrival} {cancelled : List ℕ}
    (queues : AreQueues h found posted unexpected claimed cancelled) where
  -- the oldest message of the queue is the first free one
  pub first_message-queue : (from : Peer) (tag : TagPick) (ctx : ℕ) →
      find (λ a. matches from tag ctx a.env) unexpected ≡ first_message h found from tag ctx
  first_message-queue from tag ctx =
      ap (λ (as' : List Arrival). find (λ a. matches from tag ctx a.env) as') queues.free_messages
      ∙ find-filter (λ (a : Arrival). matches from tag ctx a.env) (is_free h found) (messages h)

  -- the oldest receive of the queue is the first open one
  pub first_receive-queue : (env : Envelope) → find (λ p. matches p.from p.tag p.ctx env) posted
      ≡ first_receive h found env
  first_receive-queue env =
      ap (λ (ps : List post.Post). find (λ p. matches p.from p.tag p.ctx env) ps) queues.open_receives
      ∙ find-filter (λ (p : post.Post). matches p.from p.tag p.ctx env) (is_open h found) (posts h)

any_found : {X : Type 0} (test : X → Bool) (xs : List X) (b : Bool) (x : X)
    (rest : (b || list_any test xs) ≡ true) → (list_any test xs ≡ true → (y : X) × (find test xs ≡ Some y)) →
    (y : X) × (cond b (Some x) (find test xs) ≡ Some y)
any_found test xs true x some later = (x, refl)
any_found test xs false x some later = later some

-- a message that came is message n of its rank
pub message_came : (h : List Event) (from n : ℕ) → is_known_message h from n ≡ true → (b : Arrival)
    × (message_of h from n ≡ Some b)
unfolding is_known_message
message_came h from n came = find_some (is_message from n) (messages h) came

missed_at : {X : Type 0} (test open' : X → Bool) (x : X) (xs : List X) (b o : Bool) → test x ≡ b →
    open' x ≡ o → (b || list_any test xs) ≡ true →
    cond (b && o) (Some x) (find (λ x. test x && open' x) xs) ≡ None →
    (list_any test xs ≡ true → find (λ x. test x && open' x) xs ≡ None → (y : X) × (test y ≡ true)
    × (open' y ≡ false)) → (y : X) × (test y ≡ true) × (open' y ≡ false)
missed_at test open' x xs true true passes opens some none later = absurd (grind arith)
missed_at test open' x xs true false passes opens some none later = (x, passes, opens)
missed_at test open' x xs false o passes opens some none later = later some none

-- where an element passes, and none passes both tests, one fails the second
missed : {X : Type 0} (test open' : X → Bool) (xs : List X) → list_any test xs ≡ true →
    find (λ x. test x && open' x) xs ≡ None → (y : X) × (test y ≡ true) × (open' y ≡ false)
missed test open' [] some none = absurd (false≢true some)
missed test open' (x ∷ xs) some none = missed_at test open' x xs (test x) (open' x) refl refl some none
    (missed test open' xs)

unclaimed_parts : (paired claimed withdrawn : Bool) → (not paired && not claimed && not withdrawn) ≡ true →
    (claimed && not paired) ≡ false
unclaimed_parts true true withdrawn free = refl
unclaimed_parts true false withdrawn free = refl
unclaimed_parts false true withdrawn free = absurd (false≢true free)
unclaimed_parts false false withdrawn free = refl

closed_parts : (paired cancelled : Bool) → (not paired && not cancelled) ≡ false →
    (cancelled ≡ true → paired ≡ false) → cancelled ≡ not paired
closed_parts true true closed apart = absurd (false≢true (sym (apart refl)))
closed_parts true false closed apart = refl
closed_parts false true closed apart = refl
closed_parts false false closed apart = absurd (false≢true (sym closed))

module _ {h : List Event} {found : List Pair} {posted : List post.Post}
    {unexpected claimed : List Arrival} {cancelled : List ℕ}
    (queues : AreQueues h found posted unexpected claimed cancelled) where
  -- a receive of the queue is open
  pub number_open : (number : ℕ) (p : post.Post) → find (λ p. p.number == number) posted ≡ Some p →
      (list_any (is_of_receive number) found ≡ false) × (happened (is_cancel number) h ≡ false)
  number_open number p is_first =
      let test : post.Post → Bool = λ p. p.number == number in
      let same : p.number ≡ number = eqb-true p.number number (find_passes test posted p is_first) in
      subst (λ m. (list_any (is_of_receive m) found ≡ false) × (happened (is_cancel m) h ≡ false)) same
      (open_means h found p (find_among (λ p. is_open h found p ≡ true) test posted p
      (posted_open queues) is_first))

  -- a posted receive that is not in the queue is closed
  number_closed : (number : ℕ) → find (λ p. p.number == number) posted ≡ None →
      list_any (λ p. p.number == number) (posts h) ≡ true →
      (not (list_any (is_of_receive number) found) && not (happened (is_cancel number) h)) ≡ false
  number_closed number none was_posted =
      let test : post.Post → Bool = λ p. p.number == number in
      let gone = missed test (is_open h found) (posts h) was_posted
      (sym (ap (λ (ps : List post.Post). find test ps) queues.open_receives
      ∙ find-filter test (is_open h found) (posts h)) ∙ none) in
      subst (λ m. (not (list_any (is_of_receive m) found) && not (happened (is_cancel m) h)) ≡ false)
      (eqb-true gone.0.number number gone.1) gone.2

  -- a known receive that is not in the queue is paired or cancelled
  pub number_late : (number : ℕ) → is_known_receive h number ≡ true →
      find (λ p. p.number == number) posted ≡ None →
      list_any (λ m. m == number) cancelled ≡ not (list_any (is_of_receive number) found)
  number_late number known none =
      queues.cancelled_receives number
      ∙ elim (or_cases (list_any (λ (p : post.Post). p.number == number) (posts h))
      (list_any (is_of_receive number) found) (queues.in_turn.posted_or_paired number known)) [
        | inl was_posted ↦ closed_parts (list_any (is_of_receive number) found)
            (happened (is_cancel number) h) (number_closed number none was_posted)
            (queues.in_turn.cancelled_unpaired number)
        | inr paired ↦ closed_parts (list_any (is_of_receive number) found) (happened (is_cancel number) h)
            (rw paired refl) (queues.in_turn.cancelled_unpaired number)
      ]

  -- a message of the queue is free
  pub message_free : (from n : ℕ) (a : Arrival) → find (is_message from n) unexpected ≡ Some a →
      is_free_message h found from n ≡ true
  message_free from n a is_first =
      let passes = find_passes (is_message from n) unexpected a is_first in
      subst (λ m. is_free_message h found from m ≡ true)
      (eqb-true a.n n (and_right (a.env.from == from) (a.n == n) passes))
      (subst (λ i. is_free_message h found i a.n ≡ true)
      (eqb-true a.env.from from (and_left (a.env.from == from) (a.n == n) passes))
      (find_among (λ a. is_free h found a ≡ true) (is_message from n) unexpected a
      (unexpected_free queues) is_first))

  -- a receive of the queue is not cancelled
  pub not_cancelled : (test : post.Post → Bool) (p : post.Post) → find test posted ≡ Some p →
      list_any (λ m. m == p.number) cancelled ≡ false
  not_cancelled test p is_first =
      queues.cancelled_receives p.number
      ∙ (open_means h found p (find_among (λ p. is_open h found p ≡ true) test posted p
      (posted_open queues) is_first)).1

  free_unclaimed : (from n : ℕ) → is_free_message h found from n ≡ true → is_claimed h found from n ≡ false
  unfolding is_free_message
  free_unclaimed from n free = unclaimed_parts (list_any (is_of_message from n) found)
      (happened (is_claim from n) h) (happened (is_withdraw from n true) h) free

  -- a message of the queue is not claimed
  pub not_claimed : (test : Arrival → Bool) (a : Arrival) → find test unexpected ≡ Some a →
      list_any (is_message a.env.from a.n) claimed ≡ false
  not_claimed test a is_first =
      queues.claimed_messages a.env.from a.n
      ∙ free_unclaimed a.env.from a.n (find_among (λ a. is_free h found a ≡ true) test unexpected a
      (unexpected_free queues) is_first)

  -- message n of a rank is not claimed while it is in the queue
  pub queued_unclaimed : (from n : ℕ) (a : Arrival) → find (is_message from n) unexpected ≡ Some a →
      is_claimed h found from n ≡ false
  queued_unclaimed from n a is_first = free_unclaimed from n (message_free from n a is_first)

  -- a claimed message is not in the queue
  pub claimed_unqueued : (from n : ℕ) → is_claimed h found from n ≡ true → find (is_message from n) unexpected ≡ None
  claimed_unqueued from n is = at (find (is_message from n) unexpected) refl
    where
      at : (o : Option Arrival) → find (is_message from n) unexpected ≡ o → find (is_message from n) unexpected ≡ None
      at None none = none
      at (Some a) some = absurd (false≢true (sym (queued_unclaimed from n a some) ∙ is))

  -- a message that came and is not in the queue is not free
  pub message_late : (from n : ℕ) → is_known_message h from n ≡ true →
      find (is_message from n) unexpected ≡ None → is_free_message h found from n ≡ false
  unfolding is_known_message
  message_late from n came none =
      let gone = missed (is_message from n) (is_free h found) (messages h) came
      (sym (ap (λ (as' : List Arrival). find (is_message from n) as') queues.free_messages
      ∙ find-filter (is_message from n) (is_free h found) (messages h)) ∙ none) in
      let a : Arrival = gone.0 in
      subst (λ m. is_free_message h found from m ≡ false)
      (eqb-true a.n n (and_right (a.env.from == from) (a.n == n) gone.1))
      (subst (λ i. is_free_message h found i a.n ≡ false)
      (eqb-true a.env.from from (and_left (a.env.from == from) (a.n == n) gone.1)) gone.2)

module _ (deeds : List Deed) {posted : List post.Post} {unexpected claimed : List Arrival}
    {cancelled : List ℕ}
    (queues : AreQueuesOf deeds posted unexpected claimed cancelled) where
  pub post-none : (p : post.Post) → is_known_receive (history_of deeds) p.number ≡ false →
      find (λ a. matches p.from p.tag p.ctx a.env) unexpected ≡ None →
      AreQueuesOf (deeds ++ deed.Post p ∷ []) (posted ++ p ∷ [])
      (without_first (λ a. matches p.from p.tag p.ctx a.env) unexpected) claimed cancelled
  post-none p new none =
      rw (without_first-none (λ (a : Arrival). matches p.from p.tag p.ctx a.env) unexpected none)
      (deed-push deeds (deed.Post p) None (ap (λ (o : Option Arrival). option_map (λ a. pair_of p a) o)
      (sym (first_message-queue queues p.from p.tag p.ctx) ∙ none)) (posted_alone queues 0 0 p new))

  pub post-some : (p : post.Post) (a : Arrival) → is_known_receive (history_of deeds) p.number ≡ false →
      find (λ a. matches p.from p.tag p.ctx a.env) unexpected ≡ Some a →
      AreQueuesOf (deeds ++ deed.Post p ∷ []) posted
      (without_first (λ a. matches p.from p.tag p.ctx a.env) unexpected) claimed cancelled
  post-some p a new is_first =
      deed-push deeds (deed.Post p) (Some (pair_of p a))
      (ap (λ (o : Option Arrival). option_map (λ a. pair_of p a) o)
      (sym (first_message-queue queues p.from p.tag p.ctx) ∙ is_first))
      (posted_taking queues 0 0 p a new is_first)

  pub arrive-none : (a : Arrival) → is_known_message (history_of deeds) a.env.from a.n ≡ false →
      find (λ p. matches p.from p.tag p.ctx a.env) posted ≡ None →
      AreQueuesOf (deeds ++ deed.Arrive a ∷ []) (without_first
      (λ p. matches p.from p.tag p.ctx a.env) posted) (unexpected ++ a ∷ []) claimed cancelled
  arrive-none a new none =
      rw (without_first-none (λ (p : post.Post). matches p.from p.tag p.ctx a.env) posted none)
      (deed-push deeds (deed.Arrive a) None (ap (λ (o : Option post.Post). option_map (λ p. pair_of p a) o)
      (sym (first_receive-queue queues a.env) ∙ none)) (arrived_alone queues 0 a new))

  pub arrive-some : (a : Arrival) (p : post.Post) →
      is_known_message (history_of deeds) a.env.from a.n ≡ false →
      find (λ p. matches p.from p.tag p.ctx a.env) posted ≡ Some p →
      AreQueuesOf (deeds ++ deed.Arrive a ∷ []) (without_first
      (λ p. matches p.from p.tag p.ctx a.env) posted) unexpected claimed cancelled
  arrive-some a p new is_first =
      deed-push deeds (deed.Arrive a) (Some (pair_of p a))
      (ap (λ (o : Option post.Post). option_map (λ p. pair_of p a) o)
      (sym (first_receive-queue queues a.env) ∙ is_first)) (arrived_taking queues 0 a p new is_first)

  pub cancel-some : (number : ℕ) (p : post.Post) → find (λ p. p.number == number) posted ≡ Some p →
      AreQueuesOf (deeds ++ deed.Cancel number ∷ [])
      (without_first (λ p. p.number == number) posted) unexpected claimed (cancelled ++ number ∷ [])
  cancel-some number p is_first = deed-push deeds (deed.Cancel number) None refl
      (cancelled_one queues number p is_first)

  pub withdraw-some : (from n : ℕ) (a : Arrival) → find (is_message from n) unexpected ≡ Some a →
      AreQueuesOf (deeds ++ deed.Withdraw from n ∷ []) posted
      (without_first (is_message from n) unexpected) claimed cancelled
  withdraw-some from n a is_first = deed-push deeds (deed.Withdraw from n) None refl
      (withdrawn_one queues from n a is_first)

  pub claim-some : (test : Arrival → Bool) (a : Arrival) → find test unexpected ≡ Some a →
      AreQueuesOf (deeds ++ deed.Claim a.env.from a.n ∷ []) posted (without_first test unexpected)
      (claimed ++ a ∷ []) cancelled
  claim-some test a is_first = deed-push deeds (deed.Claim a.env.from a.n) None refl
      (claimed_one queues test a is_first)

  -- what is claimed does not wait
  pub says_claimed : (from n : ℕ) (answer : Bool) →
      (find (is_message from n) unexpected ≡ None → answer ≡ list_any (is_message from n) claimed) →
      (is_some (find (is_message from n) unexpected) ≡ true → answer ≡ false) →
      answer ≡ is_claimed (history_of deeds) (matched_pairs (history_of deeds)) from n
  says_claimed from n answer none some = at (find (is_message from n) unexpected) refl
    where
      at : (o : Option Arrival) → find (is_message from n) unexpected ≡ o →
          answer ≡ is_claimed (history_of deeds) (matched_pairs (history_of deeds)) from n
      at None nothing = none nothing ∙ queues.claimed_messages from n
      at (Some a) found = some (rw found refl) ∙ sym (queued_unclaimed queues from n a found)

  -- a claimed message came
  pub claimed_came : (from n : ℕ) → is_claimed (history_of deeds) (matched_pairs (history_of deeds)) from n
      ≡ true → (b : Arrival) × (message_of (history_of deeds) from n ≡ Some b)
  claimed_came from n claimed_now =
      message_came (history_of deeds) from n (queues.in_turn.claimed_came from n
      (and_left (happened (is_claim from n) (history_of deeds)) _ claimed_now))

  pub receive_claimed : (number from n : ℕ) → is_known_receive (history_of deeds) number ≡ false →
      is_claimed (history_of deeds) (matched_pairs (history_of deeds)) from n ≡ true →
      AreQueuesOf (deeds ++ deed.Match number from n ∷ []) posted unexpected
      (filter (λ a. not (is_message from n a)) claimed) cancelled
  receive_claimed number from n new claimed_now =
      let came = claimed_came from n claimed_now in
      deed-push deeds (deed.Match number from n) (Some (pair_of_claimed number 0 came.0))
      (ap (λ (o : Option Arrival). option_map (λ a. pair_of_claimed number 0 a) o) came.1)
      (received_one queues number from n came.0 new claimed_now came.1)

receive_at : (deeds : List Deed) (d : Deed) (number : ℕ) →
    list_any (is_deed_of_receive number) deeds ≡ is_known_receive (history_of deeds) number →
    (is_deed_of_receive number d || list_any (is_deed_of_receive number) deeds)
    ≡ is_known_receive (history_of (d ∷ deeds)) number
unfolding history_of is_known_receive
receive_at deeds (deed.Post p) number rest = ap (λ b. p.number == number || b) rest
receive_at deeds (deed.Match m from n) number rest = ap (λ b. m == number || b) rest
receive_at deeds d number rest = rest

-- a receive is known by its deed
pub is_known_receive-deeds : (deeds : List Deed) (number : ℕ) →
    list_any (is_deed_of_receive number) deeds ≡ is_known_receive (history_of deeds) number
unfolding history_of is_known_receive
is_known_receive-deeds [] number = refl
is_known_receive-deeds (d ∷ deeds) number = receive_at deeds d number (is_known_receive-deeds deeds number)

message_at : (deeds : List Deed) (d : Deed) (from n : ℕ) →
    list_any (is_deed_of_message from n) deeds ≡ is_known_message (history_of deeds) from n →
    (is_deed_of_message from n d || list_any (is_deed_of_message from n) deeds)
    ≡ is_known_message (history_of (d ∷ deeds)) from n
unfolding history_of is_known_message
message_at deeds (deed.Arrive a) from n rest = ap (λ b. (a.env.from == from && a.n == n) || b) rest
message_at deeds d from n rest = rest

-- a message is known by its deed
pub is_known_message-deeds : (deeds : List Deed) (from n : ℕ) →
    list_any (is_deed_of_message from n) deeds ≡ is_known_message (history_of deeds) from n
unfolding history_of is_known_message
is_known_message-deeds [] from n = refl
is_known_message-deeds (d ∷ deeds) from n = message_at deeds d from n (is_known_message-deeds deeds from n)
