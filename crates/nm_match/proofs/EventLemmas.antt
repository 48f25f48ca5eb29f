-- The queues after each event, whatever its stamp and its line.
use Rattle.std.proofs.Common.{◌≡◌, ◌≢◌, ℕ, ◌==◌, Bool, true, false, not, ◌&&◌, ◌||◌, Some}
use Rattle.std.proofs.Common.{List, [], ◌∷◌, ◌++◌, refl, sym, ◌∙◌, ap, subst, arith, append-nil}
use Rattle.std.proofs.Math.Bool.{and-false, or-false}
use Rattle.std.specs.List.{filter, find, list_any}
use Rattle.std.proofs.lemmas.Bool.{false≢true, false_from_ne_true, eqb-true, ne_eqb, or_left, or_right}
use Rattle.std.proofs.lemmas.Bool.{or_from}
use Rattle.std.proofs.lemmas.List.Elements.{All-weaker}
use Rattle.std.proofs.lemmas.List.Folds.{list_any-append}
use Rattle.nm_types.specs.declared.messages.Arrival.{Arrival}
use Rattle.nm_types.specs.declared.messages.Post as post
use Rattle.nm_history.specs.declared.events.Event.{Event}
use Rattle.nm_history.specs.declared.plain.Pair.{Pair}
use Rattle.nm_history.specs.Sends.{posts}
use Rattle.nm_history.specs.Selection.{matches}
use Rattle.nm_history.specs.Happens.{happened, is_cancel, is_claim}
use Rattle.nm_history.specs.Matching.{is_free, is_free_message, is_matching, is_of_message}
use Rattle.nm_history.specs.Matching.{is_of_receive, is_open}
use Rattle.nm_history.specs.Matching.{pair_of}
use Rattle.nm_history.proofs.OnceLemmas.{eqb_self, find_among, posts-push}
use Rattle.nm_match.specs.Deeds.{is_known_message, is_known_receive}
use Rattle.nm_match.specs.Queues.{AreQueues, without_first}
use Rattle.nm_match.proofs.PushLemmas.{closes, takes, is_free-push, is_known_message-push}
use Rattle.nm_match.proofs.PushLemmas.{is_known_receive-push, is_open-push, messages_known, posts_known}
use Rattle.nm_match.proofs.QueueLemmas.{cancels_stay, claims_stay, each_posted, each_unexpected}
use Rattle.nm_match.proofs.QueueLemmas.{free_means, new_free, new_open, open_means, posted_open}
use Rattle.nm_match.proofs.QueueLemmas.{posted_stay, queues-push, unexpected_free, unexpected_stay}
use Rattle.nm_match.proofs.QueueLemmas.{without_message, without_receive}
use Rattle.nm_match.proofs.TurnLemmas.{MayCome, came_later, false_when, known_later, others_message}
use Rattle.nm_match.proofs.TurnLemmas.{others_number}
use Rattle.nm_history.specs.declared.events.Happened.TheVariants as event
use Rattle.nm_history.specs.declared.events.Happened.{Happened}
use Rattle.nm_match.specs.InTurn.{is_plain_event}
use Rattle.nm_types.proofs.TruthLemmas.{and_left, and_right}
use Rattle.nm_history.proofs.AppendLemmas.{happened-push}

-- a receive is posted; a message arrives
abbrev pub posted_at : ℕ → ℕ → post.Post → Event
posted_at stamp line p = record { stamp = stamp; what = event.Post p line }

abbrev pub came_at : ℕ → Arrival → Event
came_at stamp a = record { stamp = stamp; what = event.Arrive a }

-- the pairs that an event makes are of a known receive that is not cancelled, and of a message that came
record MayPair (h : List Event) (e : Event) (more : List Pair) : Type 0 where
  pairs_known : (number : ℕ) → list_any (is_of_receive number) more ≡ true →
      is_known_receive (h ++ e ∷ []) number ≡ true
  pairs_open : (number : ℕ) → list_any (is_of_receive number) more ≡ true →
      happened (is_cancel number) (h ++ e ∷ []) ≡ false
  pairs_came : (from n : ℕ) → list_any (is_of_message from n) more ≡ true →
      is_known_message (h ++ e ∷ []) from n ≡ true

no_pair : (h : List Event) (e : Event) → MayPair h e []
no_pair h e = record {
  pairs_known = λ number made. absurd (false≢true made);
  pairs_open = λ number made. absurd (false≢true made);
  pairs_came = λ from n made. absurd (false≢true made);
}

-- a receive whose number is not known may be posted
may_post : (stamp line : ℕ) (h : List Event) (found : List Pair) (p : post.Post) (more : List Pair) →
    is_known_receive h p.number ≡ false → MayPair h (posted_at stamp line p) more →
    MayCome h found (posted_at stamp line p) more
may_post stamp line h found p more new pairs = record {
  pairs_known = pairs.pairs_known;
  pairs_open = pairs.pairs_open;
  cancels_known = λ number made. absurd (false≢true made);
  cancels_open = λ number made. absurd (false≢true made);
  pairs_came = pairs.pairs_came;
  claims_came = λ from n made. absurd (false≢true made);
  withdrawals_came = λ from n made. absurd (false≢true made);
  posts_new = λ q made. let same : p ≡ q = cc in subst
      (λ (q : post.Post). is_known_receive h q.number ≡ false) same new;
  messages_new = λ a made. absurd (grind arith);
  receives_kept = λ number made.
      or_left _ _ (ap (λ (ps : List post.Post). list_any (λ q. q.number == number) ps)
      (posts-push h (posted_at stamp line p))
      ∙ list_any-append (λ (q : post.Post). q.number == number) (posts h) (p ∷ []) ∙ or_right _ _ made);
}

-- a message that did not come before may arrive
may_arrive : (stamp : ℕ) (h : List Event) (found : List Pair) (a : Arrival) (more : List Pair) →
    is_known_message h a.env.from a.n ≡ false → MayPair h (came_at stamp a) more →
    MayCome h found (came_at stamp a) more
may_arrive stamp h found a more new pairs = record {
  pairs_known = pairs.pairs_known;
  pairs_open = pairs.pairs_open;
  cancels_known = λ number made. absurd (false≢true made);
  cancels_open = λ number made. absurd (false≢true made);
  pairs_came = pairs.pairs_came;
  claims_came = λ from n made. absurd (false≢true made);
  withdrawals_came = λ from n made. absurd (false≢true made);
  posts_new = λ q made. absurd (grind arith);
  messages_new = λ b made. let same : a ≡ b = cc in
      subst (λ (b : Arrival). is_known_message h b.env.from b.n ≡ false) same new;
  receives_kept = λ number made. absurd (false≢true made);
}

-- a test of one number, which passes, is of that number
pub of_number : (P : ℕ → Type 0) (m number : ℕ) → (m == number || false) ≡ true → P m → P number
of_number P m number made holds = subst P (eqb-true m number (sym (or-false (m == number)) ∙ made)) holds

-- a test of one message, which passes, is of that message
pub of_message : (P : ℕ → ℕ → Type 0) (i m from n : ℕ) → ((i == from && m == n) || false) ≡ true → P i m →
    P from n
of_message P i m from n made holds =
    let same = sym (or-false (i == from && m == n)) ∙ made in
    subst (λ k. P from k) (eqb-true m n (and_right (i == from) (m == n) same))
    (subst (λ k. P k m) (eqb-true i from (and_left (i == from) (m == n) same)) holds)

-- a message is not another one
other_message : (a b : Arrival) → (b.env.from ≡ a.env.from → b.n ≢ a.n) →
    (a.env.from == b.env.from && a.n == b.n) ≡ false
other_message a b other =
    false_from_ne_true (a.env.from == b.env.from && a.n == b.n)
    (λ same. other (sym (eqb-true a.env.from b.env.from
    (and_left (a.env.from == b.env.from) (a.n == b.n) same)))
    (sym (eqb-true a.n b.n (and_right (a.env.from == b.env.from) (a.n == b.n) same))))

module _ {h : List Event} {found : List Pair} {posted : List post.Post}
    {unexpected claimed : List Arrival} {cancelled : List ℕ}
    (queues : AreQueues h found posted unexpected claimed cancelled) where
  -- a receive that selects no free message is posted
  pub posted_alone : (stamp line : ℕ) (p : post.Post) → is_known_receive h p.number ≡ false →
      AreQueues (h ++ posted_at stamp line p ∷ []) (found ++ [])
      (posted ++ p ∷ []) unexpected claimed cancelled
  posted_alone stamp line p new =
      let e : Event = posted_at stamp line p in
      let kept : posted ≡ filter (λ q. not (closes e.what [] q.number)) posted ++ [] =
      posted_stay queues (λ q. closes e.what [] q.number) (λ k d inside. refl) in
      let open_now : is_open (h ++ e ∷ []) (found ++ []) p ≡ true = is_open-push h e found [] p
      ∙ (rw (new_open h found p queues.in_turn new) refl) in
      queues-push queues e [] (posted ++ p ∷ []) unexpected claimed cancelled
      (may_post stamp line h found p [] new (no_pair h e))
      (rw open_now (ap (λ (ps : List post.Post). ps ++ p ∷ []) (kept ∙ append-nil _)))
      (unexpected_stay queues (λ a. takes e.what [] a.env.from a.n) (λ k d inside. refl))
      (λ from n. claims_stay queues from n false (λ made. absurd (false≢true made)))
      (cancels_stay queues)

  -- a receive is posted, and takes the oldest free message that it selects
  pub posted_taking : (stamp line : ℕ) (p : post.Post) (a : Arrival) → is_known_receive h p.number ≡ false →
      find (λ a. matches p.from p.tag p.ctx a.env) unexpected ≡ Some a →
      AreQueues (h ++ posted_at stamp line p ∷ []) (found ++ pair_of p a ∷ []) posted
      (without_first (λ a. matches p.from p.tag p.ctx a.env) unexpected) claimed cancelled
  posted_taking stamp line p a new is_first =
      let e : Event = posted_at stamp line p in
      let more : List Pair = pair_of p a ∷ [] in
      let test : Arrival → Bool = λ a. matches p.from p.tag p.ctx a.env in
      let free = find_among (λ a. is_free h found a ≡ true) test unexpected a
      (unexpected_free queues) is_first in
      let came = find_among (λ a. is_known_message h a.env.from a.n ≡ true) test unexpected a
      (each_unexpected queues (λ a. is_known_message h a.env.from a.n ≡ true)
      (messages_known h)) is_first in
      let kept : posted ≡ filter (λ q. not (closes e.what more q.number)) posted ++ [] =
      posted_stay queues (λ q. closes e.what more q.number)
      (All-weaker (λ (q : post.Post). q.number ≢ p.number)
      (λ (q : post.Post). closes e.what more q.number ≡ false)
      (λ (q : post.Post) (other : q.number ≢ p.number).
      rw (ne_eqb p.number q.number (λ same. other (sym same))) refl) posted
      (each_posted queues (λ q. q.number ≢ p.number) (others_number h p.number new))) in
      let closed : is_open (h ++ e ∷ []) (found ++ more) p ≡ false = is_open-push h e found more p
      ∙ (rw (eqb_self p.number) (and-false (is_open h found p))) in
      queues-push queues e more posted (without_first test unexpected) claimed cancelled
      (may_post stamp line h found p more new
      (record {
        pairs_known = λ number made. is_known_receive-push h e number ∙ or_right _ _ made;
        pairs_open = λ number made.
            of_number (λ m. happened (is_cancel m) (h ++ e ∷ []) ≡ false) p.number number made
            (happened-push (is_cancel p.number) h e
            ∙ or_from _ _ (false_when _ _ (queues.in_turn.cancelled_known p.number) new) refl);
        pairs_came = λ from n made. of_message (λ i m. is_known_message (h ++ e ∷ []) i m
            ≡ true) a.env.from a.n from n made (came_later h e a.env.from a.n came);
      }))
      (rw closed kept)
      (without_message queues test (λ b. takes e.what more b.env.from b.n) a is_first
      (λ b. or-false _ ∙ or-false _ ∙ or-false _))
      (λ from n. claims_stay queues from n (list_any (is_of_message from n) more)
      (λ made. of_message (λ i m. happened (is_claim i m) h ≡ false) a.env.from a.n from n made
      (free_means h found a.env.from a.n free).1))
      (cancels_stay queues)

  -- a message that no open receive selects arrives
  pub arrived_alone : (stamp : ℕ) (a : Arrival) → is_known_message h a.env.from a.n ≡ false →
      AreQueues (h ++ came_at stamp a ∷ []) (found ++ []) posted
      (unexpected ++ a ∷ []) claimed cancelled
  arrived_alone stamp a new =
      let e : Event = came_at stamp a in
      let kept : unexpected ≡ filter (λ b. not (takes e.what [] b.env.from b.n)) unexpected ++ [] =
      unexpected_stay queues (λ b. takes e.what [] b.env.from b.n) (λ k d inside. refl) in
      let free_now : is_free (h ++ e ∷ []) (found ++ []) a ≡ true = is_free-push h e found [] a
      ∙ (rw (new_free h found a.env.from a.n queues.in_turn new) refl) in
      queues-push queues e [] posted (unexpected ++ a ∷ []) claimed cancelled
      (may_arrive stamp h found a [] new (no_pair h e))
      (posted_stay queues (λ q. closes e.what [] q.number) (λ k d inside. refl))
      (rw free_now (ap (λ (as' : List Arrival). as' ++ a ∷ []) (kept ∙ append-nil _)))
      (λ from n. claims_stay queues from n false (λ made. absurd (false≢true made)))
      (cancels_stay queues)

  -- a message arrives, and goes to the oldest open receive that selects it
  pub arrived_taking : (stamp : ℕ) (a : Arrival) (p : post.Post) → is_known_message h a.env.from a.n ≡ false →
      find (λ p. matches p.from p.tag p.ctx a.env) posted ≡ Some p →
      AreQueues (h ++ came_at stamp a ∷ []) (found ++ pair_of p a ∷ [])
      (without_first (λ p. matches p.from p.tag p.ctx a.env) posted) unexpected claimed cancelled
  arrived_taking stamp a p new is_first =
      let e : Event = came_at stamp a in
      let more : List Pair = pair_of p a ∷ [] in
      let test : post.Post → Bool = λ p. matches p.from p.tag p.ctx a.env in
      let open' = find_among (λ p. is_open h found p ≡ true) test posted p (posted_open queues) is_first in
      let known = find_among (λ p. is_known_receive h p.number ≡ true) test posted p
      (each_posted queues (λ p. is_known_receive h p.number ≡ true) (posts_known h)) is_first in
      let kept : unexpected ≡ filter (λ b. not (takes e.what more b.env.from b.n)) unexpected ++ [] =
      unexpected_stay queues (λ b. takes e.what more b.env.from b.n)
      (All-weaker (λ (b : Arrival). b.env.from ≡ a.env.from → b.n ≢ a.n)
      (λ (b : Arrival). takes e.what more b.env.from b.n ≡ false)
      (λ (b : Arrival) (other : b.env.from ≡ a.env.from → b.n ≢ a.n).
      rw (other_message a b other) refl) unexpected
      (each_unexpected queues (λ b. b.env.from ≡ a.env.from → b.n ≢ a.n)
      (others_message h a.env.from a.n new))) in
      let taken : is_free (h ++ e ∷ []) (found ++ more) a ≡ false = is_free-push h e found more a
      ∙ (rw (eqb_self a.env.from, eqb_self a.n) (and-false (is_free h found a))) in
      queues-push queues e more (without_first test posted) unexpected claimed cancelled
      (may_arrive stamp h found a more new
      (record {
        pairs_known = λ number made. of_number (λ m. is_known_receive (h ++ e ∷ []) m
            ≡ true) p.number number made (known_later h e p.number known);
        pairs_open = λ number made.
            of_number (λ m. happened (is_cancel m) (h ++ e ∷ []) ≡ false) p.number number made
            (happened-push (is_cancel p.number) h e ∙ or_from _ _ (open_means h found p open').1 refl);
        pairs_came = λ from n made. is_known_message-push h e from n ∙ or_right _ _ made;
      }))
      (without_receive queues test (λ q. closes e.what more q.number) p is_first
      (λ q. or-false _ ∙ or-false _))
      (rw taken kept)
      (λ from n. claims_stay queues from n (list_any (is_of_message from n) more)
      (λ made. of_message (λ i m. happened (is_claim i m) h ≡ false) a.env.from a.n from n made
      (false_when _ _ (queues.in_turn.claimed_came a.env.from a.n) new)))
      (cancels_stay queues)

  -- an event that plays no part in matching
  pub other_stays : (stamp : ℕ) (what : Happened) → is_plain_event what ≡ true → is_matching what ≡ false →
      AreQueues (h ++ record { stamp = stamp; what = what } ∷ []) (found ++ []) posted unexpected claimed cancelled
  other_stays stamp (event.Post p line) plain other = absurd (false≢true (sym other))
  other_stays stamp (event.Arrive a) plain other = absurd (false≢true (sym other))
  other_stays stamp (event.Match number from n cap line) plain other = absurd (false≢true plain)
  other_stays stamp (event.Cancel number done) plain other = absurd (false≢true plain)
  other_stays stamp (event.Withdraw from n done) plain other = absurd (false≢true plain)
  other_stays stamp (event.Claim from n line) plain other = absurd (false≢true plain)
  other_stays stamp what plain other =
      let e : Event = record { stamp = stamp; what = what } in
      queues-push queues e [] posted unexpected claimed cancelled
      (record {
        pairs_known = λ m made. absurd (false≢true made);
        pairs_open = λ m made. absurd (false≢true made);
        cancels_known = λ m made. absurd (false≢true made);
        cancels_open = λ m made. absurd (false≢true made);
        pairs_came = λ i m made. absurd (false≢true made);
        claims_came = λ i m made. absurd (false≢true made);
        withdrawals_came = λ i m made. absurd (false≢true made);
        posts_new = λ q made. absurd (grind arith);
        messages_new = λ b made. absurd (grind arith);
        receives_kept = λ m made. absurd (false≢true made);
      })
      (posted_stay queues (λ q. closes e.what [] q.number) (λ k d inside. refl))
      (unexpected_stay queues (λ a. takes e.what [] a.env.from a.n) (λ k d inside. refl))
      (λ i m. claims_stay queues i m false (λ made. absurd (false≢true made)))
      (cancels_stay queues)

-- no queues where nothing happened
pub queues-start : AreQueues [] [] [] [] [] []
unfolding is_free_message is_known_message is_known_receive
queues-start = record {
  in_turn = record {
    two_receives = λ i j d below inside. absurd (omega arith);
    two_messages = λ i j d below inside. absurd (omega arith);
    paired_known = λ number never. absurd (false≢true never);
    cancelled_known = λ number never. absurd (false≢true never);
    taken_came = λ from n never. absurd (false≢true never);
    claimed_came = λ from n never. absurd (false≢true never);
    withdrawn_came = λ from n never. absurd (false≢true never);
    cancelled_unpaired = λ number never. absurd (false≢true never);
    posted_or_paired = λ number never. absurd (false≢true never);
  };
  open_receives = refl;
  free_messages = refl;
  claimed_messages = λ from n. refl;
  cancelled_receives = λ number. refl;
}
