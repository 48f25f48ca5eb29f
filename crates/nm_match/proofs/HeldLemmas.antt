-- What a matcher keeps, after each deed.
use Rattle.std.proofs.Common.{◌≡◌, ◌≢◌, ℕ, ◌==◌, Bool, true, false, Option, Some, None, is_some}
use Rattle.std.proofs.Common.{List, refl, sym, subst}
use Rattle.std.specs.List.{All, find}
use Rattle.std.specs.Prelude.{AllPairs}
use Rattle.std.proofs.lemmas.Bool.{eqb-true, false≢true, false_from_ne_true}
use Rattle.std.proofs.lemmas.List.Elements.{All-filter, All-weaker}
use Rattle.std.proofs.lemmas.List.Kept.{AllPairs-filter}
use Rattle.nm_types.specs.declared.messages.Arrival.{Arrival}
use Rattle.nm_types.specs.declared.messages.Post as post
use Rattle.nm_history.specs.Matching.{is_free, is_open, matched_pairs}
use Rattle.nm_history.specs.Sends.{messages, posts}
use Rattle.nm_match.specs.declared.deeds.Deed.{Deed}
use Rattle.nm_match.specs.declared.picks.Picks.{Picks}
use Rattle.nm_match.specs.Deeds.{history_of, is_known_message, is_known_receive, is_message}
use Rattle.nm_match.specs.Picks.{same_picks}
use Rattle.nm_match.specs.Queues.{AreQueuesOf, TwoMessages, TwoReceives}
use Rattle.nm_match.specs.SameKeys.{same_picks-true}
use Rattle.nm_match.proofs.ListLemmas.{none_passes}
use Rattle.nm_match.proofs.TurnLemmas.{others_message, others_number}
use Rattle.nm_types.proofs.TruthLemmas.{and_left, and_right}

-- where what is under a key and under the others is the same, all is
pub all_same : {X : Type 0} (m m' : Picks → X) (k : Picks) →
    m' k ≡ m k →
    ((l : Picks) → same_picks k l ≡ false → m' l ≡ m l) → (l : Picks) →
    m' l ≡ m l
all_same {X} m m' k own others l = at (same_picks k l) refl
  where
    at : (b : Bool) → same_picks k l ≡ b → m' l ≡ m l
    at true same = subst (λ (l : Picks). m' l ≡ m l) (same_picks-true k l same) own
    at false other = others l other

module _ (deeds : List Deed) {posted : List post.Post} {unexpected claimed : List Arrival}
    {cancelled : List ℕ}
    (queues : AreQueuesOf deeds posted unexpected claimed cancelled) where
  -- no two receives of the queue have one number
  pub receives_apart : AllPairs TwoReceives posted
  receives_apart = subst (λ (ps : List post.Post). AllPairs TwoReceives ps) (sym queues.open_receives)
      (AllPairs-filter TwoReceives (is_open (history_of deeds) (matched_pairs (history_of deeds)))
      (posts (history_of deeds)) queues.in_turn.two_receives)

  -- no two messages of the queue are the same
  pub arrivals_apart : AllPairs TwoMessages unexpected
  arrivals_apart = subst (λ (as' : List Arrival). AllPairs TwoMessages as') (sym queues.free_messages)
      (AllPairs-filter TwoMessages (is_free (history_of deeds) (matched_pairs (history_of deeds)))
      (messages (history_of deeds)) queues.in_turn.two_messages)

module _ (deeds : List Deed) {posted : List post.Post} {unexpected claimed : List Arrival}
    {cancelled : List ℕ}
    (queues : AreQueuesOf deeds posted unexpected claimed cancelled) where
  -- a new receive has no number of the queue
  pub number_fresh : (number : ℕ) → is_known_receive (history_of deeds) number ≡ false →
      find (λ p. p.number == number) posted ≡ None
  number_fresh number new =
      none_passes (λ p. p.number == number) posted
      (subst (λ (ps : List post.Post). All (λ p. (p.number == number) ≡ false) ps) (sym queues.open_receives)
      (All-filter (is_open (history_of deeds) (matched_pairs (history_of deeds)))
      (λ p. (p.number == number) ≡ false) (posts (history_of deeds))
      (All-weaker (λ p. p.number ≢ number) (λ p. (p.number == number) ≡ false)
      (λ p other. false_from_ne_true (p.number == number) (λ same. other (eqb-true p.number number same)))
      (posts (history_of deeds)) (others_number (history_of deeds) number new))))

  -- and a new message is another than those of the queue
  pub message_fresh : (from n : ℕ) → is_known_message (history_of deeds) from n ≡ false →
      find (is_message from n) unexpected ≡ None
  message_fresh from n new =
      none_passes (is_message from n) unexpected
      (subst (λ (bs : List Arrival). All (λ b. is_message from n b ≡ false) bs) (sym queues.free_messages)
      (All-filter (is_free (history_of deeds) (matched_pairs (history_of deeds)))
      (λ b. is_message from n b ≡ false) (messages (history_of deeds))
      (All-weaker (λ b. b.env.from ≡ from → b.n ≢ n) (λ b. is_message from n b ≡ false)
      (λ b other. false_from_ne_true (is_message from n b)
      (λ same. other (eqb-true b.env.from from (and_left (b.env.from == from) (b.n == n) same))
      (eqb-true b.n n (and_right (b.env.from == from) (b.n == n) same))))
      (messages (history_of deeds)) (others_message (history_of deeds) from n new))))

-- where something is found, it is what is found
pub some_found : {X : Type 0} (o : Option X) → is_some o ≡ true → (x : X) × (o ≡ Some x)
some_found None never = absurd (false≢true never)
some_found (Some x) some = (x, refl)

-- where nothing is found
pub none_found : {X : Type 0} (o : Option X) → is_some o ≡ false → o ≡ None
none_found None none = refl
none_found (Some x) never = absurd (false≢true (sym never))
