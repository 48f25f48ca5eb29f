use Rattle.std.proofs.Common.{List, subst, sym, ◌∙◌}
use Rattle.nm_match.specs.declared.deeds.Deed.{Deed}
use Rattle.nm_lookups.specs.Queues.{HasQueuesOf}
use Rattle.nm_lookups.proofs.LookLemmas.{found_probed}
use Rattle.nm_lookups.proofs.ReplayLemmas.{first_message-followed}
use Rattle.nm_lookups.proofs.pairing.looks.found.Goals as goal

pub returns-in-Probe-clause-found : goal.returns-in-Probe-clause-found
returns-in-Probe-clause-found c = λ h follows.
    c.probe.ensures.oldest
    ∙ first_message-followed h (subst (λ (m : List Deed). HasQueuesOf h m) (sym c.prepare.ensures) follows)
    c.in-Probe.from c.in-Probe.tag c.in-Probe.ctx
    ∙ sym (found_probed h c.args.command.now c.in-Probe.from c.in-Probe.tag c.in-Probe.ctx c.in-Probe.is)
