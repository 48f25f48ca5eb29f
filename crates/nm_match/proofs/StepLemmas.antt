-- The queues after a deed that is no post and no arrival.
use Rattle.std.proofs.Common.{◌≡◌, ◌≢◌, ℕ, ◌==◌, Bool, true, false, not, ◌&&◌, ◌||◌, Some}
use Rattle.std.proofs.Common.{List, [], ◌∷◌, ◌++◌, refl, sym, ◌∙◌, ap, subst, arith, append-nil}
use Rattle.std.proofs.Math.Bool.{and-true, or-false}
use Rattle.std.specs.List.{filter, find, list_any}
use Rattle.std.proofs.lemmas.Bool.{false≢true, false_from_ne_true, eqb-true, ne_eqb, or_left, or_right}
use Rattle.std.proofs.lemmas.Bool.{or_from}
use Rattle.std.proofs.lemmas.Bool.Decides.{nat_tests}
use Rattle.std.proofs.lemmas.List.Elements.{All-weaker}
use Rattle.std.proofs.lemmas.List.Folds.{list_any-append}
use Rattle.nm_types.specs.declared.messages.Arrival.{Arrival}
use Rattle.nm_types.specs.declared.messages.Post as post
use Rattle.nm_history.specs.declared.events.Event.{Event}
use Rattle.nm_history.specs.declared.plain.Pair.{Pair}
use Rattle.nm_history.specs.Sends.{messages, message_of}
use Rattle.nm_history.specs.Happens.{happened, is_cancel, is_claim}
use Rattle.nm_history.specs.Matching.{is_claimed, is_free, is_of_message, is_of_receive, is_open}
use Rattle.nm_history.specs.Matching.{pair_of_claimed}
use Rattle.nm_history.proofs.OnceLemmas.{find_among}
use Rattle.nm_match.specs.declared.deeds.Deed.TheVariants as deed
use Rattle.nm_match.specs.Deeds.{event_of, is_known_message, is_known_receive, is_message}
use Rattle.nm_match.specs.Queues.{AreQueues, without_first}
use Rattle.nm_match.proofs.ListLemmas.{list_any-and, list_any-filter, list_any_agree}
use Rattle.nm_match.proofs.PushLemmas.{closes, takes}
use Rattle.nm_match.proofs.PushLemmas.{is_known_receive-push, messages_known, posts_known}
use Rattle.nm_match.proofs.QueueLemmas.{cancels_stay, claims_stay, each_posted, each_unexpected}
use Rattle.nm_match.proofs.QueueLemmas.{free_means, open_means, posted_open}
use Rattle.nm_match.proofs.QueueLemmas.{posted_stay, queues-push, unexpected_free, unexpected_stay}
use Rattle.nm_match.proofs.QueueLemmas.{without_message, without_receive}
use Rattle.nm_match.proofs.TurnLemmas.{came_later, false_when}
use Rattle.nm_match.proofs.TurnLemmas.{others_number}
use Rattle.nm_match.proofs.EventLemmas.{of_message, of_number}
use Rattle.nm_types.proofs.ListLemmas.{find_passes}
use Rattle.nm_types.proofs.TruthLemmas.{and_left, and_right}
use Rattle.nm_history.proofs.AppendLemmas.{happened-push}

claim_made : (claimed taken new : Bool) → (new ≡ true → taken ≡ false) →
    ((claimed && not taken) || (new || false)) ≡ ((claimed || new) && not (taken || false))
claim_made false taken false untaken = refl
claim_made false false true untaken = refl
claim_made false true true untaken = absurd (false≢true (sym (untaken refl)))
claim_made true false new untaken = refl
claim_made true true true untaken = absurd (false≢true (sym (untaken refl)))
claim_made true true false untaken = refl

receive_made : (this claimed taken : Bool) → (not this && (claimed && not taken))
    ≡ ((claimed || false) && not (taken || (this || false)))
receive_made true false taken = refl
receive_made true true true = refl
receive_made true true false = refl
receive_made false false taken = refl
receive_made false true true = refl
receive_made false true false = refl

-- an entry that is one message and not another
other_named : (from n i m k l : ℕ) → (not (k == from && l == n) && (k == i && l == m))
    ≡ (not (from == i && n == m) && (k == i && l == m))
other_named from n i m k l = grind (arith, nat_tests)

module _ {h : List Event} {found : List Pair} {posted : List post.Post}
    {unexpected claimed : List Arrival} {cancelled : List ℕ}
    (queues : AreQueues h found posted unexpected claimed cancelled) where
  -- an open receive is cancelled
  pub cancelled_one : (number : ℕ) (p : post.Post) → find (λ p. p.number == number) posted ≡ Some p →
      AreQueues (h ++ event_of (deed.Cancel number) ∷ []) (found ++ [])
      (without_first (λ p. p.number == number) posted) unexpected claimed (cancelled ++ number ∷ [])
  cancelled_one number p is_first =
      let e : Event = event_of (deed.Cancel number) in
      let test : post.Post → Bool = λ p. p.number == number in
      let same : p.number ≡ number = eqb-true p.number number (find_passes test posted p is_first) in
      let open' = find_among (λ p. is_open h found p ≡ true) test posted p (posted_open queues) is_first in
      let known = find_among (λ p. is_known_receive h p.number ≡ true) test posted p
      (each_posted queues (λ p. is_known_receive h p.number ≡ true) (posts_known h)) is_first in
      queues-push queues e [] (without_first test posted) unexpected claimed (cancelled ++ number ∷ [])
      (record {
        pairs_known = λ m made. absurd (false≢true made);
        pairs_open = λ m made. absurd (false≢true made);
        cancels_known = λ m made. subst (λ k. is_known_receive h k ≡ true)
            (same ∙ eqb-true number m (and_left (number == m) true made)) known;
        cancels_open = λ m made. ap (λ (ps : List Pair). list_any (is_of_receive m) ps) (append-nil found)
            ∙ subst (λ k. list_any (is_of_receive k) found ≡ false)
            (same ∙ eqb-true number m (and_left (number == m) true made)) (open_means h found p open').0;
        pairs_came = λ from n made. absurd (false≢true made);
        claims_came = λ from n made. absurd (false≢true made);
        withdrawals_came = λ from n made. absurd (false≢true made);
        posts_new = λ q made. absurd (grind arith);
        messages_new = λ a made. absurd (grind arith);
        receives_kept = λ m made. absurd (false≢true made);
      })
      (without_receive queues test (λ q. closes e.what [] q.number) p is_first
      (λ q. and-true (number == q.number) ∙ ap (λ m. m == q.number) (sym same)))
      (unexpected_stay queues (λ a. takes e.what [] a.env.from a.n) (λ k d inside. refl))
      (λ from n. claims_stay queues from n false (λ made. absurd (false≢true made)))
      (λ m. list_any-append (λ k. k == m) cancelled (number ∷ [])
      ∙ rw (queues.cancelled_receives m) (ap (λ b. happened (is_cancel m) h || b)
      (or-false (number == m) ∙ sym (and-true (number == m)))))

  -- a free message is withdrawn
  pub withdrawn_one : (from n : ℕ) (a : Arrival) → find (is_message from n) unexpected ≡ Some a →
      AreQueues (h ++ event_of (deed.Withdraw from n) ∷ []) (found ++ []) posted
      (without_first (is_message from n) unexpected) claimed cancelled
  withdrawn_one from n a is_first =
      let e : Event = event_of (deed.Withdraw from n) in
      let passes = find_passes (is_message from n) unexpected a is_first in
      let same_from : a.env.from ≡ from = eqb-true a.env.from from
      (and_left (a.env.from == from) (a.n == n) passes) in
      let same_n : a.n ≡ n = eqb-true a.n n (and_right (a.env.from == from) (a.n == n) passes) in
      let came = find_among (λ a. is_known_message h a.env.from a.n ≡ true) (is_message from n) unexpected a
      (each_unexpected queues (λ a. is_known_message h a.env.from a.n ≡ true)
      (messages_known h)) is_first in
      queues-push queues e [] posted (without_first (is_message from n) unexpected) claimed cancelled
      (record {
        pairs_known = λ m made. absurd (false≢true made);
        pairs_open = λ m made. absurd (false≢true made);
        cancels_known = λ m made. absurd (false≢true made);
        cancels_open = λ m made. absurd (false≢true made);
        pairs_came = λ i m made. absurd (false≢true made);
        claims_came = λ i m made. absurd (false≢true made);
        withdrawals_came = λ i m made.
            of_message (λ i m. is_known_message h i m ≡ true) from n i m
            (or_left _ _ (and_left (from == i && n == m) true made))
            (subst (λ k. is_known_message h from k ≡ true) same_n
            (subst (λ k. is_known_message h k a.n ≡ true) same_from came));
        posts_new = λ q made. absurd (grind arith);
        messages_new = λ b made. absurd (grind arith);
        receives_kept = λ m made. absurd (false≢true made);
      })
      (posted_stay queues (λ q. closes e.what [] q.number) (λ k d inside. refl))
      (without_message queues (is_message from n) (λ b. takes e.what [] b.env.from b.n) a is_first
      (λ b. and-true (from == b.env.from && n == b.n) ∙ (rw (same_from, same_n) refl)))
      (λ i m. claims_stay queues i m false (λ made. absurd (false≢true made)))
      (cancels_stay queues)

  -- a free message is claimed
  pub claimed_one : (test : Arrival → Bool) (a : Arrival) → find test unexpected ≡ Some a →
      AreQueues (h ++ event_of (deed.Claim a.env.from a.n) ∷ []) (found ++ []) posted
      (without_first test unexpected) (claimed ++ a ∷ []) cancelled
  claimed_one test a is_first =
      let e : Event = event_of (deed.Claim a.env.from a.n) in
      let free = find_among (λ a. is_free h found a ≡ true) test unexpected a
      (unexpected_free queues) is_first in
      let came = find_among (λ a. is_known_message h a.env.from a.n ≡ true) test unexpected a
      (each_unexpected queues (λ a. is_known_message h a.env.from a.n ≡ true)
      (messages_known h)) is_first in
      queues-push queues e [] posted (without_first test unexpected) (claimed ++ a ∷ []) cancelled
      (record {
        pairs_known = λ m made. absurd (false≢true made);
        pairs_open = λ m made. absurd (false≢true made);
        cancels_known = λ m made. absurd (false≢true made);
        cancels_open = λ m made. absurd (false≢true made);
        pairs_came = λ i m made. absurd (false≢true made);
        claims_came = λ i m made. of_message (λ i m. is_known_message h i m ≡ true) a.env.from a.n i m
            (or_left _ _ made) came;
        withdrawals_came = λ i m made. absurd (false≢true made);
        posts_new = λ q made. absurd (grind arith);
        messages_new = λ b made. absurd (grind arith);
        receives_kept = λ m made. absurd (false≢true made);
      })
      (posted_stay queues (λ q. closes e.what [] q.number) (λ k d inside. refl))
      (without_message queues test (λ b. takes e.what [] b.env.from b.n) a is_first
      (λ b. or-false (a.env.from == b.env.from && a.n == b.n)))
      (λ i m. list_any-append (is_message i m) claimed (a ∷ [])
      ∙ rw (queues.claimed_messages i m) (claim_made (happened (is_claim i m) h)
      (list_any (is_of_message i m) found) (a.env.from == i && a.n == m)
      (λ made. of_message (λ i m. list_any (is_of_message i m) found ≡ false) a.env.from a.n i m
      (or_left _ _ made) (free_means h found a.env.from a.n free).0)))
      (cancels_stay queues)

  -- a claimed message is received
  pub received_one : (number from n : ℕ) (b : Arrival) → is_known_receive h number ≡ false →
      is_claimed h found from n ≡ true → message_of h from n ≡ Some b →
      AreQueues (h ++ event_of (deed.Match number from n) ∷ [])
      (found ++ pair_of_claimed number 0 b ∷ []) posted unexpected
      (filter (λ a. not (is_message from n a)) claimed) cancelled
  received_one number from n b new claimed_now is_first =
      let e : Event = event_of (deed.Match number from n) in
      let more : List Pair = pair_of_claimed number 0 b ∷ [] in
      let passes = find_passes (is_message from n) (messages h) b is_first in
      let same_from : b.env.from ≡ from = eqb-true b.env.from from
      (and_left (b.env.from == from) (b.n == n) passes) in
      let same_n : b.n ≡ n = eqb-true b.n n (and_right (b.env.from == from) (b.n == n) passes) in
      let was_claimed : happened (is_claim from n) h ≡ true =
      and_left (happened (is_claim from n) h) _ claimed_now in
      let claimed_b : happened (is_claim b.env.from b.n) h ≡ true =
      subst (λ k. happened (is_claim b.env.from k) h ≡ true) (sym same_n)
      (subst (λ k. happened (is_claim k n) h ≡ true) (sym same_from) was_claimed) in
      let came : is_known_message h b.env.from b.n ≡ true =
      queues.in_turn.claimed_came b.env.from b.n claimed_b in
      queues-push queues e more posted unexpected (filter (λ a. not (is_message from n a)) claimed) cancelled
      (record {
        pairs_known = λ m made. is_known_receive-push h e m ∙ or_right _ _ made;
        pairs_open = λ m made. of_number (λ k. happened (is_cancel k) (h ++ e ∷ []) ≡ false) number m made
            (happened-push (is_cancel number) h e
            ∙ or_from _ _ (false_when _ _ (queues.in_turn.cancelled_known number) new) refl);
        cancels_known = λ m made. absurd (false≢true made);
        cancels_open = λ m made. absurd (false≢true made);
        pairs_came = λ i m made. of_message (λ i m. is_known_message (h ++ e ∷ []) i m
            ≡ true) b.env.from b.n i m made (came_later h e b.env.from b.n came);
        claims_came = λ i m made. absurd (false≢true made);
        withdrawals_came = λ i m made. absurd (false≢true made);
        posts_new = λ q made. absurd (grind arith);
        messages_new = λ a made. absurd (grind arith);
        receives_kept = λ m made. or_right _ _ (list_any-append (is_of_receive m) found more
            ∙ or_right _ _ made);
      })
      (posted_stay queues (λ q. closes e.what more q.number)
      (All-weaker (λ (q : post.Post). q.number ≢ number)
      (λ (q : post.Post). closes e.what more q.number ≡ false)
      (λ (q : post.Post) (other : q.number ≢ number).
      rw (ne_eqb number q.number (λ same. other (sym same))) refl) posted
      (each_posted queues (λ q. q.number ≢ number) (others_number h number new))))
      (unexpected_stay queues (λ a. takes e.what more a.env.from a.n)
      (All-weaker (λ (a : Arrival). is_free h found a ≡ true)
      (λ (a : Arrival). takes e.what more a.env.from a.n ≡ false)
      (λ (a : Arrival) (free : is_free h found a ≡ true). or-false _ ∙ or-false _
      ∙ false_from_ne_true _ (λ made. of_message
      (λ i m. happened (is_claim i m) h ≡ false → ⊥) b.env.from b.n a.env.from a.n made
      (λ unclaimed. false≢true (sym unclaimed ∙ claimed_b))
      (free_means h found a.env.from a.n free).1)) unexpected
      (unexpected_free queues)))
      (λ i m. list_any-filter (is_message i m) (λ a. not (is_message from n a)) claimed
      ∙ list_any_agree (λ a. not (is_message from n a) && is_message i m a)
      (λ a. not (from == i && n == m) && is_message i m a)
      (λ a. other_named from n i m a.env.from a.n) claimed
      ∙ list_any-and (not (from == i && n == m)) (is_message i m) claimed
      ∙ rw (queues.claimed_messages i m, same_from, same_n)
      (receive_made (from == i && n == m) (happened (is_claim i m) h)
      (list_any (is_of_message i m) found)))
      (cancels_stay queues)
