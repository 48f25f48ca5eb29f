use Rattle.std.proofs.Common.{◌∙◌, ap, is_some}
use Rattle.nm_kept.proofs.EntryLemmas.{kept_seen}
use Rattle.nm_rndv.specs.Offers.{is_unanswered, recall_in}
use Rattle.nm_rndv.proofs.Results.{seen}
use Rattle.nm_rndv.proofs.destinations.Destination.is_recalled.Goals as goal

pub returns : goal.returns
returns c =
    let a = c.self.inside in
    rw (← c.self.view_is) (c.is_some.ensures ∙ seen c.get.result _ c.get.ensures
    ∙ ap is_some (c.self.invariant.1.there c.args.n)
    ∙ kept_seen is_unanswered (recall_in (record { asked = a.asked.entries; recalls = a.recalls.entries }) c.args.n))
