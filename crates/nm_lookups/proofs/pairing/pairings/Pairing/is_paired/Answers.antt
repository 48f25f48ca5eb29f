use Rattle.std.proofs.Common.{◌∙◌, ap, take}
use Rattle.std.specs.Option.{is_some}
use Rattle.nm_history.specs.Matching.{is_of_receive, matched_pairs}
use Rattle.nm_lookups.proofs.ReplayLemmas.{found_any}
use Rattle.nm_lookups.proofs.pairing.pairings.Pairing.is_paired.Goals as goal

pub returns : goal.returns
returns c = λ rank lines h tells.
    c.is_some.ensures ∙ ap is_some (c.pair.ensures rank lines h tells)
    ∙ found_any (is_of_receive c.args.number) (matched_pairs (take c.args.k h))
