-- What is done, one deed after another.
use Rattle.std.specs.Prelude.{ℕ, List, [], ◌∷◌, ◌++◌}
use Rattle.nm_types.specs.declared.messages.Arrival.{Arrival}
use Rattle.nm_types.specs.declared.messages.How.TheVariants.{Eager}
use Rattle.nm_types.specs.declared.messages.Peer.{Peer}
use Rattle.nm_types.specs.declared.messages.Peer.TheVariants as peer
use Rattle.nm_types.specs.declared.messages.Post as post
use Rattle.nm_types.specs.declared.messages.TagPick.{TagPick}
use Rattle.nm_types.specs.declared.messages.TagPick.TheVariants as tag
use Rattle.nm_match.specs.declared.deeds.Deed.{Deed}
use Rattle.nm_match.specs.declared.deeds.Deed.TheVariants.{Post, Arrive}

-- a receive in context 0
abbrev pub receive : ℕ → Peer → TagPick → post.Post
receive number from tag = record { number = number; from = from; tag = tag; ctx = 0; cap = 8 }

-- the n-th message of a rank, in context 0
abbrev pub message : ℕ → ℕ → ℕ → Arrival
message from n tag = record {
  n = n;
  env = record { from = from; tag = tag; ctx = 0; len = 4; how = Eager };
}

-- the second of the two messages of rank 2
abbrev pub second_of_two : Arrival
second_of_two = message 2 1 5

-- receive 0 names rank 2 and tag 5, and receive 1 takes any message
abbrev pub after_posts : List Deed
after_posts = Post (receive 0 (peer.One 2) (tag.One 5)) ∷ Post (receive 1 peer.Any tag.Any) ∷ []

-- then a message of rank 3 came, and two of rank 2
abbrev pub after_arrivals : List Deed
after_arrivals =
    after_posts ++ Arrive (message 3 0 9) ∷ Arrive (message 2 0 5) ∷ Arrive second_of_two ∷ []
