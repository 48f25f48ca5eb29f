-- What stays is what the test keeps.
use Rattle.std.proofs.Common.{not, ◌==◌, rules}
use Rattle.std.proofs.lemmas.Fn.{filter_same}
use Rattle.nm_outcomes.proofs.spots.ranks.keep_receives.Goals as goal

pub returns : goal.returns
returns c =
    filter_same _ (λ r. not (c.args.number == r.number)) _ (λ x b q k. search rules) _ _ c.retain.ensures.filtered
