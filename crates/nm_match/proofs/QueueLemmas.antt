-- The queues after each deed.
use Rattle.std.proofs.Common.{◌≡◌, ℕ, ◌==◌, Bool, true, false, not, ◌&&◌, ◌||◌, Some}
use Rattle.std.proofs.Common.{List, [], ◌∷◌, ◌++◌, refl, sym, ◌∙◌, ap, subst}
use Rattle.std.proofs.Common.{append-nil}
use Rattle.std.proofs.Math.Bool.{or-false}
use Rattle.std.specs.Prelude.{AllPairs}
use Rattle.std.specs.List.{All, filter, find, list_any, cons_option}
use Rattle.std.proofs.lemmas.Bool.{false≢true, eqb-true, ne_eqb, false_from_ne_true}
use Rattle.std.proofs.lemmas.List.Elements.{All-filter, filter_agree, filter_passes}
use Rattle.std.proofs.lemmas.List.Kept.{AllPairs-filter}
use Rattle.nm_types.specs.declared.messages.Arrival.{Arrival}
use Rattle.nm_types.specs.declared.messages.Post as post
use Rattle.nm_history.specs.declared.events.Event.{Event}
use Rattle.nm_history.specs.declared.plain.Pair.{Pair}
use Rattle.nm_history.specs.Sends.{messages, posts, post_of, arrival_of}
use Rattle.nm_history.specs.Happens.{happened, is_cancel, is_claim, is_withdraw}
use Rattle.nm_history.specs.Matching.{is_free, is_free_message, is_of_message, is_of_receive}
use Rattle.nm_history.specs.Matching.{is_open}
use Rattle.nm_history.proofs.OnceLemmas.{eqb_self}
use Rattle.nm_match.specs.Deeds.{is_known_message, is_known_receive, is_message}
use Rattle.nm_match.specs.Queues.{AreQueues, IsInTurn, TwoMessages, TwoReceives, without_first}
use Rattle.nm_match.proofs.ListLemmas.{AllPairs-weaker, Apart, filter_none}
use Rattle.nm_match.proofs.ListLemmas.{without_first-filter}
use Rattle.nm_match.proofs.PushLemmas.{closes, takes, free_messages-push, is_claimed-push}
use Rattle.nm_match.proofs.PushLemmas.{open_receives-push}
use Rattle.nm_match.proofs.TurnLemmas.{MayCome, false_when, in_turn-push}
use Rattle.nm_types.proofs.TruthLemmas.{and_left, and_right}
use Rattle.nm_history.proofs.AppendLemmas.{happened-push}

abbrev same_receive : post.Post → post.Post → Bool
same_receive p q = p.number == q.number

abbrev same_message : Arrival → Arrival → Bool
same_message a b = a.env.from == b.env.from && a.n == b.n

two_apart : (p q : post.Post) → TwoReceives p q → (same_receive p q ≡ false) × (same_receive q p ≡ false)
two_apart p q two = (ne_eqb p.number q.number two, ne_eqb q.number p.number (λ same. two (sym same)))

messages_apart : (a b : Arrival) → TwoMessages a b → same_message a b ≡ false
messages_apart a b two =
    false_from_ne_true (same_message a b) (λ same.
    two (eqb-true a.env.from b.env.from (and_left (a.env.from == b.env.from) (a.n == b.n) same))
    (eqb-true a.n b.n (and_right (a.env.from == b.env.from) (a.n == b.n) same)))

two_messages_apart : (a b : Arrival) → TwoMessages a b → (same_message a b ≡ false)
    × (same_message b a ≡ false)
two_messages_apart a b two = (
  messages_apart a b two,
  messages_apart b a (λ same_from same_n. two (sym same_from) (sym same_n)),
)

all_fail : (x y z : Bool) → (not x && not y && not z) ≡ true → (x ≡ false) × (y ≡ false) × (z ≡ false)
all_fail true y z h = absurd (false≢true h)
all_fail false true z h = absurd (false≢true h)
all_fail false false true h = absurd (false≢true h)
all_fail false false false h = (refl, refl, refl)

-- a free message is in no pair, and was neither claimed nor withdrawn
pub free_means : (h : List Event) (found : List Pair) (from n : ℕ) → is_free_message h found from n ≡ true →
    (list_any (is_of_message from n) found ≡ false) × (happened (is_claim from n) h ≡ false)
    × (happened (is_withdraw from n true) h ≡ false)
unfolding is_free_message
free_means h found from n free = all_fail _ _ _ free

pub both_fail : (x y : Bool) → (not x && not y) ≡ true → (x ≡ false) × (y ≡ false)
both_fail true y h = absurd (false≢true h)
both_fail false true h = absurd (false≢true h)
both_fail false false h = (refl, refl)

-- an open receive is in no pair and was not cancelled
pub open_means : (h : List Event) (found : List Pair) (p : post.Post) → is_open h found p ≡ true →
    (list_any (is_of_receive p.number) found ≡ false) × (happened (is_cancel p.number) h ≡ false)
open_means h found p open' = both_fail _ _ open'

-- a message that did not come before is free
pub new_free : (h : List Event) (found : List Pair) (from n : ℕ) → IsInTurn h found →
    is_known_message h from n ≡ false → is_free_message h found from n ≡ true
unfolding is_free_message
new_free h found from n turn new =
    rw (
      false_when _ _ (turn.taken_came from n) new,
      false_when _ _ (turn.claimed_came from n) new,
      false_when _ _ (turn.withdrawn_came from n) new,
    ) refl

-- a receive that is not known is open
pub new_open : (h : List Event) (found : List Pair) (p : post.Post) → IsInTurn h found →
    is_known_receive h p.number ≡ false → is_open h found p ≡ true
new_open h found p turn new =
    rw (
      false_when _ _ (turn.paired_known p.number) new,
      false_when _ _ (turn.cancelled_known p.number) new,
    ) refl

claim_stays : (claimed taken paired : Bool) → (paired ≡ true → claimed ≡ false) →
    (claimed && not taken) ≡ ((claimed || false) && not (taken || paired))
claim_stays false taken paired unclaimed = refl
claim_stays true taken true unclaimed = absurd (false≢true (sym (unclaimed refl)))
claim_stays true taken false unclaimed = rw (or-false taken) refl

module _ {h : List Event} {found : List Pair} {posted : List post.Post}
    {unexpected claimed : List Arrival} {cancelled : List ℕ}
    (queues : AreQueues h found posted unexpected claimed cancelled) where
  -- what holds of each posted receive holds of each that is open
  pub each_posted : (P : post.Post → Type 0) → All P (posts h) → All P posted
  each_posted P each = subst (λ (ps : List post.Post). All P ps) (sym queues.open_receives)
      (All-filter (is_open h found) P (posts h) each)

  -- what holds of each message holds of each that is free
  pub each_unexpected : (P : Arrival → Type 0) → All P (messages h) → All P unexpected
  each_unexpected P each = subst (λ (as' : List Arrival). All P as') (sym queues.free_messages)
      (All-filter (is_free h found) P (messages h) each)

  pub posted_open : All (λ p. is_open h found p ≡ true) posted
  posted_open = subst (λ (ps : List post.Post). All (λ p. is_open h found p ≡ true) ps)
      (sym queues.open_receives) (filter_passes (is_open h found) (posts h))

  pub unexpected_free : All (λ a. is_free h found a ≡ true) unexpected
  unexpected_free = subst (λ (as' : List Arrival). All (λ a. is_free h found a ≡ true) as')
      (sym queues.free_messages) (filter_passes (is_free h found) (messages h))

  posted_apart : Apart same_receive posted
  posted_apart =
      let two : AllPairs TwoReceives posted = subst (λ (ps : List post.Post). AllPairs TwoReceives ps)
      (sym queues.open_receives) (AllPairs-filter TwoReceives (is_open h found)
      (posts h) queues.in_turn.two_receives) in
      AllPairs-weaker TwoReceives (λ p q. (same_receive p q ≡ false)
      × (same_receive q p ≡ false)) two_apart posted two

  unexpected_apart : Apart same_message unexpected
  unexpected_apart =
      let two : AllPairs TwoMessages unexpected =
      subst (λ (as' : List Arrival). AllPairs TwoMessages as') (sym queues.free_messages)
      (AllPairs-filter TwoMessages (is_free h found) (messages h) queues.in_turn.two_messages) in
      AllPairs-weaker TwoMessages (λ a b. (same_message a b ≡ false)
      × (same_message b a ≡ false)) two_messages_apart unexpected two

  -- the queue without a receive that was found in it
  pub without_receive : (test named : post.Post → Bool) (p : post.Post) → find test posted ≡ Some p →
      ((q : post.Post) → named q ≡ same_receive p q) →
      without_first test posted ≡ filter (λ q. not (named q)) posted ++ []
  without_receive test named p is_first agree =
      without_first-filter test same_receive (λ q. eqb_self q.number) posted p posted_apart is_first
      ∙ filter_agree (λ q. not (same_receive p q)) (λ q. not (named q)) (λ q. ap not (sym (agree q))) posted
      ∙ sym (append-nil (filter (λ q. not (named q)) posted))

  -- the queue without a message that was found in it
  pub without_message : (test named : Arrival → Bool) (a : Arrival) → find test unexpected ≡ Some a →
      ((b : Arrival) → named b ≡ same_message a b) →
      without_first test unexpected ≡ filter (λ b. not (named b)) unexpected ++ []
  without_message test named a is_first agree =
      without_first-filter test same_message (λ b.
      rw (eqb_self b.env.from, eqb_self b.n) refl) unexpected a unexpected_apart is_first
      ∙ filter_agree (λ b. not (same_message a b)) (λ b. not (named b))
      (λ b. ap not (sym (agree b))) unexpected
      ∙ sym (append-nil (filter (λ b. not (named b)) unexpected))

  -- the queues after an event that may come next, where each is known
  pub queues-push : (e : Event) (more : List Pair) (posted' : List post.Post)
      (unexpected' claimed' : List Arrival) (cancelled' : List ℕ) → MayCome h found e more →
      posted' ≡ filter (λ p. not (closes e.what more p.number)) posted ++ filter
      (is_open (h ++ e ∷ []) (found ++ more)) (cons_option (post_of e.what) []) →
      unexpected' ≡ filter (λ a. not (takes e.what more a.env.from a.n)) unexpected ++ filter
      (is_free (h ++ e ∷ []) (found ++ more)) (cons_option (arrival_of e.what) []) →
      ((from n : ℕ) → list_any (is_message from n) claimed'
      ≡ ((happened (is_claim from n) h || is_claim from n e.what) && not
      (list_any (is_of_message from n) found || list_any (is_of_message from n) more))) →
      ((number : ℕ) → list_any (λ m. m == number) cancelled'
      ≡ (happened (is_cancel number) h || is_cancel number e.what)) →
      AreQueues (h ++ e ∷ []) (found ++ more) posted' unexpected' claimed' cancelled'
  queues-push e more posted' unexpected' claimed' cancelled' may opened freed claims cancels =
      record {
        in_turn = in_turn-push h found e more queues.in_turn may;
        open_receives = opened ∙ rw (← queues.open_receives) at (sym (open_receives-push h e found more));
        free_messages = freed ∙ rw (← queues.free_messages) at (sym (free_messages-push h e found more));
        claimed_messages = λ from n. claims from n ∙ sym (is_claimed-push h e found more from n);
        cancelled_receives = λ number. cancels number ∙ sym (happened-push (is_cancel number) h e);
      }

  -- no claim more and no pair of a claimed message
  pub claims_stay : (from n : ℕ) (paired : Bool) → (paired ≡ true → happened (is_claim from n) h ≡ false) →
      list_any (is_message from n) claimed ≡ ((happened (is_claim from n) h || false) && not
      (list_any (is_of_message from n) found || paired))
  claims_stay from n paired unclaimed =
      queues.claimed_messages from n ∙ claim_stays (happened (is_claim from n) h)
      (list_any (is_of_message from n) found) paired unclaimed

  -- no cancel more
  pub cancels_stay : (number : ℕ) → list_any (λ m. m == number) cancelled
      ≡ (happened (is_cancel number) h || false)
  cancels_stay number = queues.cancelled_receives number ∙ sym (or-false (happened (is_cancel number) h))

  -- no receive more, and none closed
  pub posted_stay : (named : post.Post → Bool) → All (λ p. named p ≡ false) posted →
      posted ≡ filter (λ p. not (named p)) posted ++ []
  posted_stay named none = sym (append-nil (filter (λ p. not (named p)) posted)
      ∙ filter_none named posted none)

  -- no message more, and none taken
  pub unexpected_stay : (named : Arrival → Bool) → All (λ a. named a ≡ false) unexpected →
      unexpected ≡ filter (λ a. not (named a)) unexpected ++ []
  unexpected_stay named none = sym (append-nil (filter (λ a. not (named a)) unexpected)
      ∙ filter_none named unexpected none)
