-- What a matcher keeps: posted receives in rings, unexpected messages in buckets, and which numbers
-- are taken.
use Rattle.std.specs.Prelude.{ℕ, List}
use Rattle.nm_types.specs.declared.messages.Arrival.{Arrival}
use Rattle.nm_types.specs.declared.messages.Post as post
use Rattle.nm_match.specs.declared.deeds.Deed.{Deed}
use Rattle.nm_match.specs.declared.posted.Posted.{Posted}
use Rattle.nm_match.specs.declared.seen.Seen.{Seen}
use Rattle.nm_match.specs.declared.unexpected.Unexpected.{Unexpected}
use Rattle.nm_match.specs.Names.{ArePosted, AreUnexpected}
use Rattle.nm_match.specs.Queues.{AreQueuesOf}
use Rattle.nm_match.specs.Seen.{AreNames}

-- The posted receive queue of these deeds is in rings of receives that name the same, and their
-- unexpected message queue in buckets. Each receive or message that waits has an order number, below
-- the next one of its queue. Beside them stand the messages that are claimed and not yet received,
-- the numbers of the cancelled receives, and the numbers that are taken.
pub record AreHeld (deeds : List Deed) (order next : ℕ) (p : Posted) (u : Unexpected) (r m : Seen)
    : Type 0 where
  pub posted : List post.Post
  pub unexpected : List Arrival
  pub claimed : List Arrival
  pub cancelled : List ℕ
  pub receives : ArePosted posted cancelled order p
  pub messages : AreUnexpected unexpected claimed next u
  pub queues : AreQueuesOf deeds posted unexpected claimed cancelled
  pub names : AreNames deeds order next r m
