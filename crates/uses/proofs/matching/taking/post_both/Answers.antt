-- Each receive has a number of its own.
use Rattle.std.proofs.Common.{refl, ap, [], ◌∷◌}
use Rattle.nm_types.specs.declared.messages.Peer.TheVariants as peer
use Rattle.nm_types.specs.declared.messages.Post as post
use Rattle.nm_types.specs.declared.messages.TagPick.TheVariants as tag
use Rattle.nm_match.specs.declared.deeds.Deed.TheVariants.{Post}
use Rattle.nm_match.specs.Deeds.{history_of, is_known_receive}
use Rattle.uses.specs.Story.{receive}
use Rattle.uses.proofs.StoryLemmas.{grown, new_receive}
use Rattle.uses.proofs.matching.taking.post_both.Goals as goal

pub post-requires : goal.post-requires
unfolding history_of is_known_receive
post-requires c = record {
  is_new = new_receive _ [] _ (receive 0 (peer.One 2) (tag.One 5)) c.requires c.receive.ensures refl;
}

pub post-requires-2 : goal.post-requires-2
unfolding history_of is_known_receive
post-requires-2 c =
    let named = receive 0 (peer.One 2) (tag.One 5) in
    let done = grown _ _ [] _ (Post named) c.in_ok-post.ensures.ok c.requires
    (ap (λ (p : post.Post). Post p) c.receive.ensures) in
    record {
      is_new = new_receive _ (Post named ∷ []) _ (receive 1 peer.Any tag.Any) done
          c.receive-2.ensures refl;
    }
