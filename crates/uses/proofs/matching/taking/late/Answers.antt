-- The second message of rank 2 is the oldest that is free.
use Rattle.std.proofs.Common.{refl, ◌∙◌, ◌≡◌, Some, Option, Result, Ok, Err, IfOk}
use Rattle.nm_types.specs.declared.lists.Memory.{Memory}
use Rattle.nm_types.specs.declared.messages.Arrival.{Arrival}
use Rattle.nm_types.specs.declared.messages.Peer.TheVariants as peer
use Rattle.nm_types.specs.declared.messages.TagPick.TheVariants as tag
use Rattle.nm_history.specs.Matching.{is_free_message, matched_pairs}
use Rattle.nm_match.specs.Deeds.{history_of, is_known_receive}
use Rattle.uses.specs.Story.{after_arrivals, receive, second_of_two}
use Rattle.uses.proofs.StoryLemmas.{new_receive, same_taken}
use Rattle.uses.proofs.matching.taking.late.Goals as goal

pub post-requires : goal.post-requires
unfolding history_of is_known_receive
post-requires c = record {
  is_new = new_receive _ after_arrivals _ (receive 2 peer.Any tag.Any) c.requires c.receive.ensures refl;
}

-- an answer that is this one is also what it is equal to
also : (result : Result (Option Arrival) Memory) (a b : Option Arrival) →
    IfOk result (λ taken. taken ≡ a) → a ≡ b → IfOk result (λ taken. taken ≡ b)
also (Ok taken) a b is same = is ∙ same
also (Err e) a b is same = tt

pub returns : goal.returns
unfolding history_of matched_pairs is_free_message
returns c =
    also _ _ (Some second_of_two) c.post.ensures.oldest
    (same_taken _ after_arrivals _ (receive 2 peer.Any tag.Any) c.requires c.receive.ensures)
