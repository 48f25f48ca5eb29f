use Rattle.std.proofs.Common.{◌∙◌, ap}
use Rattle.std.specs.Option.{option_and_then}
use Rattle.nm_rndv.specs.Offers.{next_in, state_in}
use Rattle.nm_rndv.proofs.StateLemmas.{next_kept}
use Rattle.nm_rndv.proofs.destinations.Destination.leaving.Goals as goal

pub returns-in-Some : goal.returns-in-Some
returns-in-Some c =
    c.leaving.ensures ∙ ap (option_and_then next_in) c.in-Some.ensures
    ∙ next_kept (state_in c.args.self.now c.args.n)

pub returns-in-None : goal.returns-in-None
returns-in-None c =
    ap (option_and_then next_in) c.in-None.ensures ∙ next_kept (state_in c.args.self.now c.args.n)
