-- What stays is what the test keeps.
use Rattle.std.proofs.Common.{not, rules}
use Rattle.std.proofs.lemmas.Fn.{filter_same}
use Rattle.nm_match.specs.Deeds.{is_message}
use Rattle.nm_outcomes.proofs.spots.ranks.keep_others.Goals as goal

pub returns : goal.returns
returns c =
    filter_same _ (λ a. not (is_message c.args.from c.args.n a)) _
    (λ x b q k. search rules) _ _ c.retain.ensures.filtered
