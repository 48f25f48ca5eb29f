-- A message is known by its deed.
use Rattle.std.proofs.Common.{◌∙◌}
use Rattle.nm_match.proofs.DeedLemmas.{is_known_message-deeds}
use Rattle.nm_match.proofs.matching.Matcher.knows_arrival.Goals as goal

pub returns : goal.returns
returns c = rw (← c.self.view_is) (c.contains.ensures ∙ c.self.invariant.names.messages c.args.from c.args.n
    ∙ is_known_message-deeds c.self.inside.done.items c.args.from c.args.n)
