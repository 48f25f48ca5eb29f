use Rattle.std.proofs.Common.{◌∙◌}
use Rattle.nm_lookups.proofs.FirstLemmas.{ever_taken}
use Rattle.nm_lookups.proofs.firsts.is_ever_taken.Goals as goal

pub returns : goal.returns
returns c = λ h taken.
    c.contains_key.ensures
    ∙ ever_taken h c.args.rank c.args.n _ (taken (record { rank = c.args.rank; n = c.args.n }))
