use Rattle.std.proofs.Common.{◌+◌, ◌*◌, ◌≤◌, List, length, subst}
use Rattle.std.specs.Prelude.{count_by}
use Rattle.nm_history.specs.declared.events.Event.{Event}
use Rattle.nm_history.specs.Outgoing.{is_clear, packets_of_events}
use Rattle.nm_check.specs.Counting.{AreDue}
use Rattle.nm_check.proofs.CountingLemmas.{all_counted}
use Rattle.nm_check.proofs.MiscountLemmas.{few_packets}
use Rattle.nm_check.proofs.rest.counts.counts_of.Goals as goal

pub returns-clause-exact : goal.returns-clause-exact
returns-clause-exact c =
    let h = c.args.account.now.history.events in
    let pairs = c.pairs.ensures c.requires.0 c.requires.1 h c.requires.2.tells in
    all_counted h c.pairs.result.now c.with_pairs.result pairs
    (subst (λ (g : List Event). AreDue c.with_pairs.result
    (λ to. packets_of_events to g + count_by (is_clear to) c.pairs.result.now)) c.as_slice-events.ensures
    (c.with_pairs.ensures (λ to. packets_of_events to c.as_slice-events.result.now) c.counts_of_events.ensures.exact))

pub returns-clause-few : goal.returns-clause-few
returns-clause-few c = λ to.
    let h = c.args.account.now.history.events in
    let pairs = c.pairs.ensures c.requires.0 c.requires.1 h c.requires.2.tells in
    few_packets h c.pairs.result.now to pairs
    (subst (λ (g : List Event). packets_of_events to g ≤ length g * 4294967295) c.as_slice-events.ensures
    (c.counts_of_events.ensures.few to))
