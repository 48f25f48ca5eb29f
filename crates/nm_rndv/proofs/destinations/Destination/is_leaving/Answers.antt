use Rattle.std.proofs.Common.{◌∙◌, ap, false}
use Rattle.std.specs.Option.{option_map_or}
use Rattle.nm_kept.proofs.EntryLemmas.{test_kept}
use Rattle.nm_rndv.specs.Offers.{has_body, is_leaving, state_in}
use Rattle.nm_rndv.proofs.StateLemmas.{bare_leaves}
use Rattle.nm_rndv.proofs.destinations.Destination.is_leaving.Goals as goal

pub returns-in-Some : goal.returns-in-Some
returns-in-Some c =
    c.is_leaving.ensures ∙ ap (λ o. option_map_or is_leaving o false) c.in-Some.ensures
    ∙ test_kept has_body is_leaving bare_leaves (state_in c.args.self.now c.args.n)

pub returns-in-None : goal.returns-in-None
returns-in-None c =
    ap (λ o. option_map_or is_leaving o false) c.in-None.ensures
    ∙ test_kept has_body is_leaving bare_leaves (state_in c.args.self.now c.args.n)
