use Rattle.std.proofs.Common.{◌∙◌, ℕ, ap, sym}
use Rattle.nm_types.proofs.OptionLemmas.{some_mapped}
use Rattle.nm_rndv.specs.Grants.{Granted, came, first_unfinished, grants_from, has_unfinished}
use Rattle.nm_rndv.proofs.SenderLemmas.{grants_there}
use Rattle.nm_rndv.proofs.granting.Grants.is_due.Goals as goal

pub returns : goal.returns
returns c =
    let there = grants_there c.self.inside.senders.items c.args.self.now c.args.from c.self.view_is c.requires
    c.index.result.now c.index.ensures in
    let grants = grants_from c.args.self.now c.args.from in
    c.has_unfinished.ensures ∙ ap has_unfinished there
    ∙ sym (some_mapped (λ (e : ℕ × Granted). (e.0, came e.1)) (first_unfinished grants))
