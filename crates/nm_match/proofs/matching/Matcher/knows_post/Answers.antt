-- A receive is known by its deed.
use Rattle.std.proofs.Common.{◌∙◌}
use Rattle.nm_match.proofs.DeedLemmas.{is_known_receive-deeds}
use Rattle.nm_match.proofs.matching.Matcher.knows_post.Goals as goal

pub returns : goal.returns
returns c = rw (← c.self.view_is) (rw c.receive_id.ensures.id at c.contains.ensures
    ∙ c.self.invariant.names.receives c.args.post ∙ is_known_receive-deeds c.self.inside.done.items c.args.post)
