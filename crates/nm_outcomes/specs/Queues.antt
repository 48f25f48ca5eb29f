-- The two queues of a rank, and what a receive and a message do to them.
use Rattle.std.specs.Prelude.{◌≡◌, Bool, Option, Some, None, List, ◌∷◌, [], ◌++◌, find, is_some, if◌then◌else◌}
use Rattle.nm_types.specs.declared.messages.Arrival.{Arrival}
use Rattle.nm_types.specs.declared.messages.Post as post
use Rattle.nm_history.specs.Selection.{matches}
use Rattle.nm_match.specs.Queues.{without_first}

-- the open receives and the free messages, oldest first
pub record Queues : Type 0 where
  pub receives : List post.Post
  pub messages : List Arrival

-- a receive selects a message
abbrev pub selects : post.Post → Arrival → Bool
selects p a = matches p.from p.tag p.ctx a.env

-- the message that a new receive takes
abbrev pub taken_by : Queues → post.Post → Option Arrival
taken_by q p = find (selects p) q.messages

-- the receive that a new message goes to
abbrev pub goes_to : Queues → Arrival → Option post.Post
goes_to q a = find (λ p. selects p a) q.receives

-- the queues after a receive was posted
abbrev pub after_post : Queues → post.Post → Queues
after_post q p =
    if is_some (taken_by q p)
    then record q { messages = without_first (selects p) q.messages }
    else record q { receives = q.receives ++ p ∷ [] }

-- the queues after a message came
abbrev pub after_arrival : Queues → Arrival → Queues
after_arrival q a =
    if is_some (goes_to q a)
    then record q { receives = without_first (λ p. selects p a) q.receives }
    else record q { messages = q.messages ++ a ∷ [] }

-- what became of a receive that was posted behind a message, and of both the other way round
pub record IsSwapped (q : Queues) (p : post.Post) (a : Arrival) : Type 0 where
  pub queues : after_post (after_arrival q a) p ≡ after_arrival (after_post q p) a
  -- where the message goes to an older receive, or the receive takes an older message, so it is too
  -- the other way round; and else they take one another both ways, or both wait
  pub older_receive :
      (o : post.Post) → goes_to q a ≡ Some o →
      (goes_to (after_post q p) a ≡ Some o) × (taken_by (after_arrival q a) p ≡ taken_by q p)
  pub older_message :
      (b : Arrival) → taken_by q p ≡ Some b →
      (taken_by (after_arrival q a) p ≡ Some b) × (goes_to (after_post q p) a ≡ goes_to q a)
  pub one_another :
      goes_to q a ≡ None → taken_by q p ≡ None →
      (taken_by (after_arrival q a) p ≡ (if selects p a then Some a else None))
      × (goes_to (after_post q p) a ≡ (if selects p a then Some p else None))

-- a receive that is posted before a message comes does what it does behind it
abbrev pub ReceivesAndMessagesSwap : Type 0
ReceivesAndMessagesSwap = (q : Queues) (p : post.Post) (a : Arrival) → IsSwapped q p a
