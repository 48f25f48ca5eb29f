-- The queues of a matcher, by the history that its deeds stand for.
use Rattle.std.specs.Prelude.{◌≡◌, ◌≢◌, ℕ, Bool, true, false, ◌==◌, ◌||◌}
use Rattle.std.specs.Prelude.{if◌then◌else◌, List, [], ◌∷◌, AllPairs, IsTrue, filter}
use Rattle.std.specs.List.{list_any}
use Rattle.nm_types.specs.declared.messages.Arrival.{Arrival}
use Rattle.nm_types.specs.declared.messages.Post as post
use Rattle.nm_history.specs.declared.events.Event.{Event}
use Rattle.nm_history.specs.declared.plain.Pair.{Pair}
use Rattle.nm_history.specs.Happens.{happened, is_cancel, is_claim, is_withdraw}
use Rattle.nm_history.specs.Sends.{messages, posts}
use Rattle.nm_history.specs.Matching.{is_claimed, is_free, is_of_message, is_of_receive, is_open}
use Rattle.nm_history.specs.Matching.{matched_pairs}
use Rattle.nm_match.specs.declared.deeds.Deed.{Deed}
use Rattle.nm_match.specs.Deeds.{history_of, is_known_message, is_known_receive, is_message}

-- the list without its first element that passes
abbrev pub without_first : {X : Type 0} → (X → Bool) → List X → List X
without_first test [] = []
without_first test (x ∷ xs) = if test x then xs else x ∷ without_first test xs

-- two posted receives have two numbers
abbrev pub TwoReceives : post.Post → post.Post → Type 0
TwoReceives p q = p.number ≢ q.number

-- two messages are of two ranks or have two numbers
abbrev pub TwoMessages : Arrival → Arrival → Type 0
TwoMessages a b = a.env.from ≡ b.env.from → a.n ≢ b.n

-- Receives and messages come once. What is paired, cancelled, claimed or withdrawn came before. A
-- cancelled receive is in no pair, and a receive that was not posted is in one.
pub record IsInTurn (h : List Event) (found : List Pair) : Type 0 where
  pub two_receives : AllPairs TwoReceives (posts h)
  pub two_messages : AllPairs TwoMessages (messages h)
  pub paired_known :
      (number : ℕ) → IsTrue (list_any (is_of_receive number) found)
      → IsTrue (is_known_receive h number)
  pub cancelled_known :
      (number : ℕ) → IsTrue (happened (is_cancel number) h) → IsTrue (is_known_receive h number)
  pub taken_came :
      (from n : ℕ) → IsTrue (list_any (is_of_message from n) found)
      → IsTrue (is_known_message h from n)
  pub claimed_came :
      (from n : ℕ) → IsTrue (happened (is_claim from n) h) → IsTrue (is_known_message h from n)
  pub withdrawn_came :
      (from n : ℕ) → IsTrue (happened (is_withdraw from n true) h)
      → IsTrue (is_known_message h from n)
  pub cancelled_unpaired :
      (number : ℕ) → IsTrue (happened (is_cancel number) h)
      → list_any (is_of_receive number) found ≡ false
  pub posted_or_paired :
      (number : ℕ) → IsTrue (is_known_receive h number)
      → IsTrue
      (list_any (λ p. p.number == number) (posts h) || list_any (is_of_receive number) found)

-- The posted receive queue is the open receives and the unexpected message queue the free messages,
-- both in order of age. Beside them stand the messages that are claimed and not yet received, and
-- the numbers of the cancelled receives.
pub record AreQueues (h : List Event) (found : List Pair) (posted : List post.Post)
    (unexpected claimed : List Arrival) (cancelled : List ℕ) : Type 0 where
  pub in_turn : IsInTurn h found
  pub open_receives : posted ≡ filter (is_open h found) (posts h)
  pub free_messages : unexpected ≡ filter (is_free h found) (messages h)
  pub claimed_messages :
      (from n : ℕ) → list_any (is_message from n) claimed ≡ is_claimed h found from n
  pub cancelled_receives :
      (number : ℕ) → list_any (λ m. m == number) cancelled ≡ happened (is_cancel number) h

-- the queues of a matcher that did these deeds
abbrev pub AreQueuesOf :
    List Deed → List post.Post → List Arrival → List Arrival → List ℕ → Type 0
AreQueuesOf deeds posted unexpected claimed cancelled =
    AreQueues (history_of deeds) (matched_pairs (history_of deeds)) posted unexpected claimed
    cancelled
