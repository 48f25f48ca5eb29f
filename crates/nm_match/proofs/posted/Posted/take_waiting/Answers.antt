-- Where no receive takes any source or any tag, the oldest is in the ring of the message's own key.
use Rattle.std.proofs.Common.{refl}
use Rattle.nm_types.specs.declared.messages.Peer.TheVariants as peer
use Rattle.nm_types.specs.declared.messages.TagPick.TheVariants as tag
use Rattle.nm_match.proofs.PostedLemmas.{left_named}
use Rattle.nm_match.proofs.posted.Posted.take_waiting.Goals as goal

pub returns-then-is_empty-clause-left : goal.returns-then-is_empty-clause-left
returns-then-is_empty-clause-left c = λ under queue next are rings.
    left_named are c.args.self.now c.take_named.new.self rings
    (record { from = peer.One c.args.env.now.from; tag = tag.One c.args.env.now.tag; ctx = c.args.env.now.ctx })
    refl c.take_named.result c.take_named.ensures.oldest c.take_named.ensures.wild c.take_named.ensures.left
