-- The queues of a history, and a matcher that has them.
use Rattle.std.specs.Prelude.{◌≡◌, ℕ, ◌==◌, Bool, true, false, not, ◌||◌, if◌then◌else◌}
use Rattle.std.specs.Prelude.{Option, Some, None, List, [], ◌∷◌, ◌++◌, filter}
use Rattle.std.specs.List.{list_any}
use Rattle.nm_types.specs.declared.messages.Arrival.{Arrival}
use Rattle.nm_types.specs.declared.messages.Post as post
use Rattle.nm_history.specs.declared.events.Event.{Event}
use Rattle.nm_history.specs.declared.events.Happened.{Happened}
use Rattle.nm_history.specs.declared.events.Happened.TheVariants.{Arrive, Match, Post}
use Rattle.nm_history.specs.Happens.{happened, is_cancel, is_claim, is_withdraw}
use Rattle.nm_history.specs.Matching.{is_free, is_of_message, is_of_receive, is_open, matched_pairs}
use Rattle.nm_history.specs.Sends.{messages, posts}
use Rattle.nm_match.specs.declared.deeds.Deed.{Deed}
use Rattle.nm_match.specs.Deeds.{history_of, is_known_message, is_known_receive, is_message}
use Rattle.nm_match.specs.Queues.{AreQueuesOf}

-- the posted receives that are open
abbrev pub open_receives : List Event → List post.Post
open_receives h = filter (is_open h (matched_pairs h)) (posts h)

-- the messages that are free
abbrev pub free_messages : List Event → List Arrival
free_messages h = filter (is_free h (matched_pairs h)) (messages h)

-- a receive of this number was posted
abbrev pub is_posted : List Event → ℕ → Bool
is_posted h number = list_any (λ p. p.number == number) (posts h)

-- a receive of this number is paired or was cancelled
abbrev pub is_closed : List Event → ℕ → Bool
is_closed h number =
    list_any (is_of_receive number) (matched_pairs h) || happened (is_cancel number) h

-- message n of this rank is paired, or was claimed or withdrawn
abbrev pub is_gone : List Event → ℕ → ℕ → Bool
is_gone h from n =
    list_any (is_of_message from n) (matched_pairs h)
    || happened (is_claim from n) h || happened (is_withdraw from n true) h

-- the receives without those of this number
abbrev pub without_receive : ℕ → List post.Post → List post.Post
without_receive number posted = filter (λ p. not (number == p.number)) posted

-- the messages without message n of this rank
abbrev pub without_message : ℕ → ℕ → List Arrival → List Arrival
without_message from n unexpected = filter (λ a. not (is_message from n a)) unexpected

-- A matcher with these deeds has these queues, and knows these receives and these messages.
pub record HasQueues (posted : List post.Post) (unexpected : List Arrival) (knows : ℕ → Bool)
    (came : ℕ → ℕ → Bool) (deeds : List Deed) : Type 0 where
  pub claimed : List Arrival
  pub cancelled : List ℕ
  pub queues : AreQueuesOf deeds posted unexpected claimed cancelled
  pub receives : (number : ℕ) → is_known_receive (history_of deeds) number ≡ knows number
  pub messages : (from n : ℕ) → is_known_message (history_of deeds) from n ≡ came from n

-- The open receives after a receive was posted and took this message, or none. One that was
-- cancelled before is not open.
abbrev pub posted_after_post :
    post.Post → Bool → List post.Post → Option Arrival → List post.Post
posted_after_post p cancelled posted None = if cancelled then posted else posted ++ p ∷ []
posted_after_post p cancelled posted (Some a) = posted

-- the free messages after it took this one, or none
abbrev pub unexpected_after_post : List Arrival → Option Arrival → List Arrival
unexpected_after_post unexpected None = unexpected
unexpected_after_post unexpected (Some a) = without_message a.env.from a.n unexpected

-- the open receives after a message came and went to the receive of this number, or to none
abbrev pub posted_after_arrival : List post.Post → Option ℕ → List post.Post
posted_after_arrival posted None = posted
posted_after_arrival posted (Some number) = without_receive number posted

-- The free messages after it came. One that was claimed or withdrawn before is not free.
abbrev pub unexpected_after_arrival :
    Arrival → Bool → List Arrival → Option ℕ → List Arrival
unexpected_after_arrival a gone unexpected None =
    if gone then unexpected else unexpected ++ a ∷ []
unexpected_after_arrival a gone unexpected (Some number) = unexpected

-- A matcher whose deeds may be others than the events of a history has the queues of that history.
abbrev pub HasQueuesOf : List Event → List Deed → Type 0
HasQueuesOf h deeds =
    HasQueues (open_receives h) (free_messages h) (is_posted h) (is_known_message h) deeds

-- the event posts a receive or brings a message that did not come before
abbrev pub IsFirstOfItsKind : List Event → Happened → Type 0
IsFirstOfItsKind h (Post p line) = is_known_receive h p.number ≡ false
IsFirstOfItsKind h (Match number from n cap line) = is_known_receive h number ≡ false
IsFirstOfItsKind h (Arrive a) = is_known_message h a.env.from a.n ≡ false
IsFirstOfItsKind h _ = Unit {0}
