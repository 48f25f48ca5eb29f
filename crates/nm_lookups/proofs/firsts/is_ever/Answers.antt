use Rattle.std.proofs.Common.{◌∙◌}
use Rattle.nm_lookups.proofs.FirstLemmas.{happened_ever}
use Rattle.nm_lookups.proofs.firsts.is_ever.Goals as goal

pub returns : goal.returns
returns g c = λ h firsts.
    c.contains_key.ensures
    ∙ happened_ever g.T.Kind.is_of c.args.places.now h (record { rank = c.args.rank; n = c.args.n }) firsts
