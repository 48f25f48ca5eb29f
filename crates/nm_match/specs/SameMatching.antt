-- Matching is the same on two histories.
use Rattle.std.specs.Prelude.{◌≡◌, ℕ, List}
use Rattle.std.specs.List.{list_any}
use Rattle.nm_types.specs.declared.messages.Envelope.{Envelope}
use Rattle.nm_types.specs.declared.messages.Peer.{Peer}
use Rattle.nm_types.specs.declared.messages.Post as post
use Rattle.nm_types.specs.declared.messages.TagPick.{TagPick}
use Rattle.nm_history.specs.declared.events.Event.{Event}
use Rattle.nm_history.specs.Happens.{happened, is_cancel}
use Rattle.nm_history.specs.Matching.{first_message, first_receive, is_claimed, is_free_message, is_of_message}
use Rattle.nm_history.specs.Matching.{is_of_receive, is_open, matched_pairs}
use Rattle.nm_history.specs.Sends.{message_of}
use Rattle.nm_match.specs.Deeds.{is_known_message, is_known_receive}

-- what the definitions of matching say of the one is what they say of the other
pub record SameMatching (h g : List Event) : Type 0 where
  pub message : (from : Peer) (tag : TagPick) (ctx : ℕ) →
      first_message h (matched_pairs h) from tag ctx ≡ first_message g (matched_pairs g) from tag ctx
  pub receive : (env : Envelope) →
      first_receive h (matched_pairs h) env ≡ first_receive g (matched_pairs g) env
  pub free : (from n : ℕ) →
      is_free_message h (matched_pairs h) from n ≡ is_free_message g (matched_pairs g) from n
  pub claimed : (from n : ℕ) → is_claimed h (matched_pairs h) from n ≡ is_claimed g (matched_pairs g) from n
  pub open_receive : (p : post.Post) → is_open h (matched_pairs h) p ≡ is_open g (matched_pairs g) p
  pub paired : (number : ℕ) →
      list_any (is_of_receive number) (matched_pairs h) ≡ list_any (is_of_receive number) (matched_pairs g)
  pub taken : (from n : ℕ) →
      list_any (is_of_message from n) (matched_pairs h) ≡ list_any (is_of_message from n) (matched_pairs g)
  pub cancelled : (number : ℕ) → happened (is_cancel number) h ≡ happened (is_cancel number) g
  pub known_receive : (number : ℕ) → is_known_receive h number ≡ is_known_receive g number
  pub known_message : (from n : ℕ) → is_known_message h from n ≡ is_known_message g from n
  pub message_named : (from n : ℕ) → message_of h from n ≡ message_of g from n
