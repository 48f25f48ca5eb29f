-- What a matcher has after each deed that it is told.
use Rattle.std.proofs.Common.{◌≡◌, ◌≢◌, ℕ, ◌==◌, Bool, true, false, not, ◌&&◌, ◌||◌, cond, Option, Some, None}
use Rattle.std.proofs.Common.{List, [], ◌∷◌, ◌++◌, refl, sym, ◌∙◌, ap, subst, append-nil, arith}
use Rattle.std.specs.List.{All, filter, find, list_any, cons_option}
use Rattle.std.specs.Option.{option_map}
use Rattle.std.proofs.Math.Bool.{or-false}
use Rattle.std.proofs.lemmas.Bool.{eqb-true, false_from_ne_true, ne_eqb, or_right}
use Rattle.std.proofs.lemmas.Bool.Decides.{nat_tests}
use Rattle.std.proofs.lemmas.List.Elements.{All-weaker, filter-append}
use Rattle.nm_types.specs.declared.messages.Arrival.{Arrival}
use Rattle.nm_types.specs.declared.messages.Post as post
use Rattle.nm_history.specs.Happens.{happened, is_cancel}
use Rattle.nm_history.specs.Matching.{first_message, first_receive, is_free_message, is_of_receive, matched_pairs}
use Rattle.nm_history.specs.Selection.{matches}
use Rattle.nm_history.specs.Sends.{arrival_of, receive_of}
use Rattle.nm_history.proofs.OnceLemmas.{eqb_self, none_passes}
use Rattle.nm_match.specs.declared.deeds.Deed.{Deed}
use Rattle.nm_match.specs.declared.deeds.Deed.TheVariants as deed
use Rattle.nm_match.specs.Deeds.{event_of, happened_by, history_of, is_known_message, is_known_receive, is_message}
use Rattle.nm_match.specs.Queues.{AreQueuesOf}
use Rattle.nm_match.proofs.DeedLemmas.{first_message-queue, first_receive-queue}
use Rattle.nm_match.proofs.DeedLemmas.{arrive-none, arrive-some, cancel-some, history_of-push}
use Rattle.nm_match.proofs.DeedLemmas.{message_free, message_late, number_late, number_open, post-none, post-some}
use Rattle.nm_match.proofs.DeedLemmas.{withdraw-some}
use Rattle.nm_match.proofs.ListLemmas.{filter_none, without_first-none}
use Rattle.nm_match.proofs.PushLemmas.{is_known_message-push, is_known_receive-push}
use Rattle.nm_match.proofs.QueueLemmas.{each_posted, each_unexpected}
use Rattle.nm_match.proofs.QueueLemmas as queue
use Rattle.nm_match.proofs.TurnLemmas.{others_message, others_number}
use Rattle.nm_lookups.specs.Queues.{HasQueues, posted_after_arrival, posted_after_post}
use Rattle.nm_lookups.specs.Queues.{unexpected_after_arrival, unexpected_after_post, without_message, without_receive}
use Rattle.nm_types.proofs.ListLemmas.{find_passes}
use Rattle.nm_types.proofs.TruthLemmas.{and_left, and_right}

-- the receives that a deed makes known, and the messages
abbrev pub new_receive : Deed → ℕ → Bool
new_receive d number = list_any (λ m. m == number) (cons_option (receive_of (happened_by d)) [])

abbrev pub new_message : Deed → ℕ → ℕ → Bool
new_message d from n = list_any (is_message from n) (cons_option (arrival_of (happened_by d)) [])

pub known_receive-push : (deeds : List Deed) (d : Deed) (number : ℕ) →
    is_known_receive (history_of (deeds ++ d ∷ [])) number
    ≡ (is_known_receive (history_of deeds) number || new_receive d number)
known_receive-push deeds d number =
    rw (history_of-push deeds d) (is_known_receive-push (history_of deeds) (event_of d) number)

pub known_message-push : (deeds : List Deed) (d : Deed) (from n : ℕ) →
    is_known_message (history_of (deeds ++ d ∷ [])) from n
    ≡ (is_known_message (history_of deeds) from n || new_message d from n)
known_message-push deeds d from n =
    rw (history_of-push deeds d) (is_known_message-push (history_of deeds) (event_of d) from n)

none_at : {X : Type 0} (test : X → Bool) (x : X) (xs : List X) (b : Bool) →
    cond b (Some x) (find test xs) ≡ None → (find test xs ≡ None → list_any test xs ≡ false) →
    (b || list_any test xs) ≡ false
none_at test x xs true some later = absurd (grind arith)
none_at test x xs false none later = later none

-- where none is found, none passes
any_none : {X : Type 0} (test : X → Bool) (xs : List X) → find test xs ≡ None → list_any test xs ≡ false
any_none test [] none = refl
any_none test (x ∷ xs) none = none_at test x xs (test x) none (any_none test xs)

-- what stays the same without what is in it
pub nothing_named : {X : Type 0} (test named : X → Bool) (xs : List X) → find test xs ≡ None →
    ((x : X) → named x ≡ test x) → xs ≡ filter (λ x. not (named x)) xs
nothing_named test named xs none agree =
    sym (filter_none named xs (All-weaker (λ x. test x ≡ false) (λ x. named x ≡ false)
    (λ x other. agree x ∙ other) xs (none_passes test xs (any_none test xs none))))

pub other_name : (from n : ℕ) (a : Arrival) → (a.env.from ≡ from → a.n ≢ n) → is_message from n a ≡ false
other_name from n a other =
    false_from_ne_true (is_message from n a) (λ same.
    other (eqb-true a.env.from from (and_left (a.env.from == from) (a.n == n) same))
    (eqb-true a.n n (and_right (a.env.from == from) (a.n == n) same)))

pub both_ways : (from n i m : ℕ) → (from == i && n == m) ≡ (i == from && m == n)
both_ways from n i m = grind (arith, nat_tests)

number_both_ways : (number m : ℕ) → (number == m) ≡ (m == number)
number_both_ways number m = grind (arith, nat_tests)

either_fails : (paired : Bool) → (not paired && not (not paired)) ≡ false
either_fails true = refl
either_fails false = refl

module _ {posted : List post.Post} {unexpected : List Arrival} {knows : ℕ → Bool} {came : ℕ → ℕ → Bool}
    {deeds : List Deed} (keeps : HasQueues posted unexpected knows came deeds) where
  -- the same, said in other words
  pub keeps_agree : (knows' : ℕ → Bool) (came' : ℕ → ℕ → Bool) → ((number : ℕ) → knows number ≡ knows' number) →
      ((from n : ℕ) → came from n ≡ came' from n) → HasQueues posted unexpected knows' came' deeds
  keeps_agree knows' came' same_receives same_messages = record {
    claimed = keeps.claimed;
    cancelled = keeps.cancelled;
    queues = keeps.queues;
    receives = λ number. keeps.receives number ∙ same_receives number;
    messages = λ from n. keeps.messages from n ∙ same_messages from n;
  }

module _ {posted : List post.Post} {unexpected : List Arrival} {knows : ℕ → Bool} {came : ℕ → ℕ → Bool}
    {deeds : List Deed} (keeps : HasQueues posted unexpected knows came deeds) where
  -- one deed more
  pub keeps-push : (d : Deed) (posted' : List post.Post) (unexpected' claimed' : List Arrival) (cancelled' : List ℕ) →
      AreQueuesOf (deeds ++ d ∷ []) posted' unexpected' claimed' cancelled' →
      HasQueues posted' unexpected' (λ number. knows number || new_receive d number)
      (λ from n. came from n || new_message d from n) (deeds ++ d ∷ [])
  keeps-push d posted' unexpected' claimed' cancelled' are = record {
    claimed = claimed';
    cancelled = cancelled';
    queues = are;
    receives = λ number. known_receive-push deeds d number
        ∙ ap (λ b. b || new_receive d number) (keeps.receives number);
    messages = λ from n. known_message-push deeds d from n
        ∙ ap (λ b. b || new_message d from n) (keeps.messages from n);
  }

  -- a deed that makes nothing known
  keeps-quiet : (d : Deed) (posted' : List post.Post) (unexpected' claimed' : List Arrival) (cancelled' : List ℕ) →
      receive_of (happened_by d) ≡ None → arrival_of (happened_by d) ≡ None →
      AreQueuesOf (deeds ++ d ∷ []) posted' unexpected' claimed' cancelled' →
      HasQueues posted' unexpected' knows came (deeds ++ d ∷ [])
  keeps-quiet d posted' unexpected' claimed' cancelled' no_receive no_message are = record {
    claimed = claimed';
    cancelled = cancelled';
    queues = are;
    receives = λ number. known_receive-push deeds d number
        ∙ ap (λ (o : Option ℕ). is_known_receive (history_of deeds) number || list_any (λ m. m == number)
        (cons_option o [])) no_receive
        ∙ or-false (is_known_receive (history_of deeds) number) ∙ keeps.receives number;
    messages = λ from n. known_message-push deeds d from n
        ∙ ap (λ (o : Option Arrival). is_known_message (history_of deeds) from n || list_any (is_message from n)
        (cons_option o [])) no_message
        ∙ or-false (is_known_message (history_of deeds) from n) ∙ keeps.messages from n;
  }

  -- a free message is withdrawn
  keeps_withdrawn : (from n : ℕ) (a : Arrival) → find (is_message from n) unexpected ≡ Some a →
      HasQueues posted (without_message from n unexpected) knows came (deeds ++ deed.Withdraw from n ∷ [])
  keeps_withdrawn from n a is_first =
      let passes = find_passes (is_message from n) unexpected a is_first in
      let same_from : a.env.from ≡ from = eqb-true a.env.from from (and_left (a.env.from == from) (a.n == n) passes) in
      let same_n : a.n ≡ n = eqb-true a.n n (and_right (a.env.from == from) (a.n == n) passes) in
      let left = queue.without_message keeps.queues (is_message from n) (is_message from n) a is_first
      (λ b. rw (same_from, same_n) (both_ways b.env.from b.n from n))
      ∙ append-nil (without_message from n unexpected) in
      keeps-quiet (deed.Withdraw from n) posted
      (without_message from n unexpected) keeps.claimed keeps.cancelled refl refl
      (subst (λ (ms : List Arrival). AreQueuesOf
      (deeds ++ deed.Withdraw from n ∷ []) posted ms keeps.claimed keeps.cancelled)
      left (withdraw-some deeds keeps.queues from n a is_first))

  -- an open receive is cancelled
  keeps_cancelled : (number : ℕ) (p : post.Post) → find (λ p. p.number == number) posted ≡ Some p →
      HasQueues (without_receive number posted) unexpected knows came (deeds ++ deed.Cancel number ∷ [])
  keeps_cancelled number p is_first =
      let test : post.Post → Bool = λ p. p.number == number in
      let same : p.number ≡ number = eqb-true p.number number (find_passes test posted p is_first) in
      let left = queue.without_receive keeps.queues test (λ q. number == q.number) p is_first
      (λ q. rw same refl) ∙ append-nil (without_receive number posted) in
      keeps-quiet (deed.Cancel number) (without_receive number posted) unexpected keeps.claimed
      (keeps.cancelled ++ number ∷ []) refl refl
      (subst (λ (ps : List post.Post). AreQueuesOf (deeds ++ deed.Cancel number ∷ []) ps unexpected keeps.claimed
      (keeps.cancelled ++ number ∷ []))
      left (cancel-some deeds keeps.queues number p is_first))

  -- what a withdrawal leaves, whether the message was free or not
  pub withdrawal_keeps : (from n : ℕ) (done : Bool) (new : List Deed) →
      is_known_message (history_of deeds) from n ≡ true →
      done ≡ is_free_message (history_of deeds) (matched_pairs (history_of deeds)) from n →
      new ≡ cond done (deeds ++ deed.Withdraw from n ∷ []) deeds →
      HasQueues posted (without_message from n unexpected) knows came new
  withdrawal_keeps from n done new known free are = by_first (find (is_message from n) unexpected) refl
    where
      by_first : (o : Option Arrival) → find (is_message from n) unexpected ≡ o →
          HasQueues posted (without_message from n unexpected) knows came new
      by_first None none =
          let late : done ≡ false = free ∙ message_late keeps.queues from n known none in
          let same : new ≡ deeds = are ∙ ap (λ b. cond b (deeds ++ deed.Withdraw from n ∷ []) deeds) late in
          subst (λ (ds : List Deed). HasQueues posted (without_message from n unexpected) knows came ds) (sym same)
          (subst (λ (ms : List Arrival). HasQueues posted ms knows came deeds)
          (nothing_named (is_message from n) (is_message from n) unexpected none (λ a. refl)) keeps)
      by_first (Some a) is_first =
          let early : done ≡ true = free ∙ message_free keeps.queues from n a is_first in
          let more : new ≡ deeds ++ deed.Withdraw from n ∷ [] =
          are ∙ ap (λ b. cond b (deeds ++ deed.Withdraw from n ∷ []) deeds) early in
          subst (λ (ds : List Deed). HasQueues posted (without_message from n unexpected) knows came ds) (sym more)
          (keeps_withdrawn from n a is_first)

  -- what a cancel leaves, whether the receive was open or not
  pub cancel_keeps : (number : ℕ) (done : Bool) (new : List Deed) → is_known_receive (history_of deeds) number ≡ true →
      done ≡ not (list_any (is_of_receive number) (matched_pairs (history_of deeds))) →
      new ≡ cond (done && not (happened (is_cancel number) (history_of deeds)))
      (deeds ++ deed.Cancel number ∷ []) deeds →
      HasQueues (without_receive number posted) unexpected knows came new
  cancel_keeps number done new known late are = by_first (find (λ p. p.number == number) posted) refl
    where
      by_first : (o : Option post.Post) → find (λ p. p.number == number) posted ≡ o →
          HasQueues (without_receive number posted) unexpected knows came new
      by_first None none =
          let paired : Bool = list_any (is_of_receive number) (matched_pairs (history_of deeds)) in
          let closed : happened (is_cancel number) (history_of deeds) ≡ not paired =
          sym (keeps.queues.cancelled_receives number) ∙ number_late keeps.queues number known none in
          let quiet : (done && not (happened (is_cancel number) (history_of deeds))) ≡ false =
          rw (late, closed) (either_fails paired) in
          let same : new ≡ deeds = are ∙ ap (λ b. cond b (deeds ++ deed.Cancel number ∷ []) deeds) quiet in
          subst (λ (ds : List Deed). HasQueues (without_receive number posted) unexpected knows came ds) (sym same)
          (subst (λ (ps : List post.Post). HasQueues ps unexpected knows came deeds)
          (nothing_named (λ p. p.number == number) (λ p. number == p.number) posted none
          (λ p. number_both_ways number p.number)) keeps)
      by_first (Some p) is_first =
          let open' = number_open keeps.queues number p is_first in
          let told : (done && not (happened (is_cancel number) (history_of deeds))) ≡ true =
          rw (late, open'.0, open'.1) refl in
          let more : new ≡ deeds ++ deed.Cancel number ∷ [] =
          are ∙ ap (λ b. cond b (deeds ++ deed.Cancel number ∷ []) deeds) told in
          subst (λ (ds : List Deed). HasQueues (without_receive number posted) unexpected knows came ds) (sym more)
          (keeps_cancelled number p is_first)

  said : (p : post.Post) (posted' : List post.Post) (unexpected' : List Arrival) →
      HasQueues posted' unexpected' (λ number. knows number || new_receive (deed.Post p) number)
      (λ from n. came from n || new_message (deed.Post p) from n) (deeds ++ deed.Post p ∷ []) →
      HasQueues posted' unexpected' (λ number. knows number || p.number == number) came (deeds ++ deed.Post p ∷ [])
  said p posted' unexpected' kept =
      keeps_agree kept (λ number. knows number || p.number == number) came
      (λ number. ap (λ b. knows number || b) (or-false (p.number == number))) (λ from n. or-false (came from n))

  brought : (a : Arrival) (posted' : List post.Post) (unexpected' : List Arrival) →
      HasQueues posted' unexpected' (λ number. knows number || new_receive (deed.Arrive a) number)
      (λ from n. came from n || new_message (deed.Arrive a) from n) (deeds ++ deed.Arrive a ∷ []) →
      HasQueues posted' unexpected' knows (λ from n. came from n || (a.env.from == from && a.n == n))
      (deeds ++ deed.Arrive a ∷ [])
  brought a posted' unexpected' kept =
      keeps_agree kept knows (λ from n. came from n || (a.env.from == from && a.n == n))
      (λ number. or-false (knows number)) (λ from n.
      ap (λ b. came from n || b) (or-false (a.env.from == from && a.n == n)))

  -- a receive that is not known is not in the queue
  others_posted : (number : ℕ) → is_known_receive (history_of deeds) number ≡ false →
      All (λ p. (number == p.number) ≡ false) posted
  others_posted number new =
      All-weaker (λ p. p.number ≢ number) (λ p. (number == p.number) ≡ false)
      (λ p other. ne_eqb number p.number (λ same. other (sym same))) posted
      (each_posted keeps.queues (λ p. p.number ≢ number) (others_number (history_of deeds) number new))

  -- a receive is posted, and takes this message, or none
  pub posted_keeps : (p : post.Post) (taken : Option Arrival) → is_known_receive (history_of deeds) p.number ≡ false →
      find (λ a. matches p.from p.tag p.ctx a.env) unexpected ≡ taken →
      HasQueues (posted_after_post p false posted taken) (unexpected_after_post unexpected taken)
      (λ number. knows number || p.number == number) came (deeds ++ deed.Post p ∷ [])
  posted_keeps p None new none =
      let test : Arrival → Bool = λ a. matches p.from p.tag p.ctx a.env in
      said p (posted ++ p ∷ []) unexpected
      (keeps-push (deed.Post p) (posted ++ p ∷ []) unexpected keeps.claimed keeps.cancelled
      (subst (λ (ms : List Arrival). AreQueuesOf (deeds ++ deed.Post p ∷ [])
      (posted ++ p ∷ []) ms keeps.claimed keeps.cancelled)
      (without_first-none test unexpected none) (post-none deeds keeps.queues p new none)))
  posted_keeps p (Some a) new is_first =
      let test : Arrival → Bool = λ a. matches p.from p.tag p.ctx a.env in
      let left = queue.without_message keeps.queues test (is_message a.env.from a.n) a is_first
      (λ b. both_ways b.env.from b.n a.env.from a.n)
      ∙ append-nil (without_message a.env.from a.n unexpected) in
      said p posted (without_message a.env.from a.n unexpected)
      (keeps-push (deed.Post p) posted (without_message a.env.from a.n unexpected) keeps.claimed keeps.cancelled
      (subst (λ (ms : List Arrival). AreQueuesOf (deeds ++ deed.Post p ∷ []) posted ms keeps.claimed keeps.cancelled)
      left (post-some deeds keeps.queues p a new is_first)))

  -- .. and is not open, where it was cancelled before
  pub posted_left : (p : post.Post) → is_known_receive (history_of deeds) p.number ≡ false →
      without_receive p.number (posted ++ p ∷ []) ≡ posted
  posted_left p new =
      let last : without_receive p.number (p ∷ []) ≡ [] = rw (eqb_self p.number) refl in
      filter-append (λ q. not (p.number == q.number)) posted (p ∷ [])
      ∙ ap (λ (ps : List post.Post). without_receive p.number posted ++ ps) last
      ∙ append-nil (without_receive p.number posted)
      ∙ filter_none (λ q. p.number == q.number) posted (others_posted p.number new)

  -- a message that did not come is not in the queue
  others_unexpected : (from n : ℕ) → is_known_message (history_of deeds) from n ≡ false →
      All (λ a. is_message from n a ≡ false) unexpected
  others_unexpected from n new =
      All-weaker (λ a. a.env.from ≡ from → a.n ≢ n) (λ a. is_message from n a ≡ false)
      (λ a other. other_name from n a other) unexpected
      (each_unexpected keeps.queues (λ a. a.env.from ≡ from → a.n ≢ n) (others_message (history_of deeds) from n new))

  -- a message comes, and goes to the receive of this number, or to none
  pub arrived_keeps : (a : Arrival) (taken : Option post.Post) →
      is_known_message (history_of deeds) a.env.from a.n ≡ false →
      find (λ p. matches p.from p.tag p.ctx a.env) posted ≡ taken →
      HasQueues (posted_after_arrival posted (option_map (λ p. p.number) taken))
      (unexpected_after_arrival a false unexpected (option_map (λ p. p.number) taken))
      knows (λ from n. came from n || (a.env.from == from && a.n == n)) (deeds ++ deed.Arrive a ∷ [])
  arrived_keeps a None new none =
      let test : post.Post → Bool = λ p. matches p.from p.tag p.ctx a.env in
      brought a posted (unexpected ++ a ∷ [])
      (keeps-push (deed.Arrive a) posted (unexpected ++ a ∷ []) keeps.claimed keeps.cancelled
      (subst (λ (ps : List post.Post). AreQueuesOf (deeds ++ deed.Arrive a ∷ []) ps
      (unexpected ++ a ∷ []) keeps.claimed keeps.cancelled)
      (without_first-none test posted none) (arrive-none deeds keeps.queues a new none)))
  arrived_keeps a (Some p) new is_first =
      let test : post.Post → Bool = λ p. matches p.from p.tag p.ctx a.env in
      let left = queue.without_receive keeps.queues test (λ q. p.number == q.number) p is_first (λ q. refl)
      ∙ append-nil (without_receive p.number posted) in
      brought a (without_receive p.number posted) unexpected
      (keeps-push (deed.Arrive a) (without_receive p.number posted) unexpected keeps.claimed keeps.cancelled
      (subst (λ (ps : List post.Post). AreQueuesOf
      (deeds ++ deed.Arrive a ∷ []) ps unexpected keeps.claimed keeps.cancelled)
      left (arrive-some deeds keeps.queues a p new is_first)))

  -- .. and is not free, where it was claimed or withdrawn before
  pub arrived_left : (a : Arrival) → is_known_message (history_of deeds) a.env.from a.n ≡ false →
      without_message a.env.from a.n (unexpected ++ a ∷ []) ≡ unexpected
  arrived_left a new =
      let last : without_message a.env.from a.n (a ∷ []) ≡ [] = rw (eqb_self a.env.from, eqb_self a.n) refl in
      filter-append (λ b. not (is_message a.env.from a.n b)) unexpected (a ∷ [])
      ∙ ap (λ (ms : List Arrival). without_message a.env.from a.n unexpected ++ ms) last
      ∙ append-nil (without_message a.env.from a.n unexpected)
      ∙ filter_none (is_message a.env.from a.n) unexpected (others_unexpected a.env.from a.n new)

  -- what a post answers and leaves
  pub post_keeps : (p : post.Post) (taken : Option Arrival) (new : List Deed) →
      is_known_receive (history_of deeds) p.number ≡ false →
      taken ≡ first_message (history_of deeds) (matched_pairs (history_of deeds)) p.from p.tag p.ctx →
      new ≡ deeds ++ deed.Post p ∷ [] →
      (taken ≡ find (λ a. matches p.from p.tag p.ctx a.env) unexpected)
      × HasQueues (posted_after_post p false posted taken) (unexpected_after_post unexpected taken)
      (λ number. knows number || p.number == number) came new
  post_keeps p taken new is_new is more =
      let first : find (λ a. matches p.from p.tag p.ctx a.env) unexpected ≡ taken =
      first_message-queue keeps.queues p.from p.tag p.ctx ∙ sym is in (
        sym first,
        subst (λ (ds : List Deed). HasQueues (posted_after_post p false posted taken)
            (unexpected_after_post unexpected taken)
            (λ number. knows number || p.number == number) came ds) (sym more) (posted_keeps p taken is_new first),
      )

  -- .. where the receive was cancelled before, and where not
  pub post_cancelled : (p : post.Post) (cancelled : Bool) (new : List Deed) →
      is_known_receive (history_of deeds) p.number ≡ false →
      cancelled ≡ true →
      HasQueues (without_receive p.number (posted ++ p ∷ [])) unexpected
      (λ number. knows number || p.number == number) came new →
      HasQueues (posted_after_post p cancelled posted None) unexpected
      (λ number. knows number || p.number == number) came new
  post_cancelled p cancelled new is_new was kept =
      subst (λ (ps : List post.Post). HasQueues ps unexpected (λ number. knows number || p.number == number) came new)
      (posted_left p is_new ∙ ap (λ b. cond b posted (posted ++ p ∷ [])) (sym was)) kept

  pub post_open : (p : post.Post) (cancelled : Bool) (new : List Deed) → cancelled ≡ false →
      HasQueues (posted ++ p ∷ []) unexpected (λ number. knows number || p.number == number) came new →
      HasQueues (posted_after_post p cancelled posted None) unexpected
      (λ number. knows number || p.number == number) came new
  post_open p cancelled new was kept =
      subst (λ (ps : List post.Post). HasQueues ps unexpected (λ number. knows number || p.number == number) came new)
      (ap (λ b. cond b posted (posted ++ p ∷ [])) (sym was)) kept

  -- what an arrival answers and leaves
  pub arrive_keeps : (a : Arrival) (taken : Option ℕ) (new : List Deed) →
      is_known_message (history_of deeds) a.env.from a.n ≡ false →
      taken ≡ option_map (λ p. p.number) (first_receive (history_of deeds) (matched_pairs (history_of deeds)) a.env) →
      new ≡ deeds ++ deed.Arrive a ∷ [] →
      (taken ≡ option_map (λ p. p.number) (find (λ p. matches p.from p.tag p.ctx a.env) posted))
      × HasQueues (posted_after_arrival posted taken) (unexpected_after_arrival a false unexpected taken) knows
      (λ from n. came from n || (a.env.from == from && a.n == n)) new
  arrive_keeps a taken new is_new is more =
      let same : taken ≡ option_map (λ p. p.number) (find (λ p. matches p.from p.tag p.ctx a.env) posted) =
      is ∙ ap (λ (o : Option post.Post). option_map (λ p. p.number) o)
      (sym (first_receive-queue keeps.queues a.env)) in (
        same,
        subst (λ (ds : List Deed). HasQueues (posted_after_arrival posted taken)
            (unexpected_after_arrival a false unexpected taken) knows
            (λ from n. came from n || (a.env.from == from && a.n == n)) ds) (sym more)
            (subst (λ (o : Option ℕ). HasQueues (posted_after_arrival posted o)
            (unexpected_after_arrival a false unexpected o) knows
            (λ from n. came from n || (a.env.from == from && a.n == n)) (deeds ++ deed.Arrive a ∷ [])) (sym same)
            (arrived_keeps a (find (λ p. matches p.from p.tag p.ctx a.env) posted) is_new refl)),
      )

  -- .. where the message was claimed or withdrawn before, and where not
  pub arrive_gone : (a : Arrival) (gone : Bool) (new : List Deed) →
      is_known_message (history_of deeds) a.env.from a.n ≡ false →
      gone ≡ true →
      HasQueues posted (without_message a.env.from a.n (unexpected ++ a ∷ [])) knows
      (λ from n. came from n || (a.env.from == from && a.n == n)) new →
      HasQueues posted (unexpected_after_arrival a gone unexpected None) knows
      (λ from n. came from n || (a.env.from == from && a.n == n)) new
  arrive_gone a gone new is_new was kept =
      subst (λ (ms : List Arrival). HasQueues posted ms knows
      (λ from n. came from n || (a.env.from == from && a.n == n)) new)
      (arrived_left a is_new ∙ ap (λ b. cond b unexpected (unexpected ++ a ∷ [])) (sym was)) kept

  pub arrive_free : (a : Arrival) (gone : Bool) (new : List Deed) → gone ≡ false →
      HasQueues posted (unexpected ++ a ∷ []) knows (λ from n. came from n || (a.env.from == from && a.n == n)) new →
      HasQueues posted (unexpected_after_arrival a gone unexpected None) knows
      (λ from n. came from n || (a.env.from == from && a.n == n)) new
  arrive_free a gone new was kept =
      subst (λ (ms : List Arrival). HasQueues posted ms knows
      (λ from n. came from n || (a.env.from == from && a.n == n)) new)
      (ap (λ b. cond b unexpected (unexpected ++ a ∷ [])) (sym was)) kept

-- what was posted is known, and what came
pub post_known : (deeds new : List Deed) (p : post.Post) → new ≡ deeds ++ deed.Post p ∷ [] →
    is_known_receive (history_of new) p.number ≡ true
post_known deeds new p more =
    let self : (p.number == p.number || false) ≡ true = rw (eqb_self p.number) refl in
    ap (λ (ds : List Deed). is_known_receive (history_of ds) p.number) more
    ∙ known_receive-push deeds (deed.Post p) p.number
    ∙ or_right (is_known_receive (history_of deeds) p.number) _ self

pub arrival_known : (deeds new : List Deed) (a : Arrival) → new ≡ deeds ++ deed.Arrive a ∷ [] →
    is_known_message (history_of new) a.env.from a.n ≡ true
arrival_known deeds new a more =
    let self : ((a.env.from == a.env.from && a.n == a.n) || false) ≡ true =
    rw (eqb_self a.env.from, eqb_self a.n) refl in
    ap (λ (ds : List Deed). is_known_message (history_of ds) a.env.from a.n) more
    ∙ known_message-push deeds (deed.Arrive a) a.env.from a.n
    ∙ or_right (is_known_message (history_of deeds) a.env.from a.n) _ self
