use Rattle.std.proofs.Common.{sym, ◌∙◌}
use Rattle.nm_history.specs.declared.events.Event.{Event}
use Rattle.nm_lookups.proofs.EarlyLemmas.{first_is_earlier, never_is_earlier}
use Rattle.nm_lookups.proofs.firsts.is_earlier.Goals as goal

pub returns-in-Some : goal.returns-in-Some
returns-in-Some g c =
    first_is_earlier (λ (e : Event). g.T.Kind.is_of c.args.rank c.args.n e.what) c.args.stamp c.args.events.now
    c.in-Some.place.now c.is_stamped_before.result
    c.requires.rising (sym
    (c.in-Some.ensures.value ∙ c.requires.firsts (record { rank = c.args.rank; n = c.args.n })))
    c.is_stamped_before.ensures.there

pub returns-in-None : goal.returns-in-None
returns-in-None g c =
    never_is_earlier (λ (e : Event). g.T.Kind.is_of c.args.rank c.args.n e.what) c.args.stamp c.args.events.now
    c.requires.rising (sym (c.in-None.ensures.value ∙ c.requires.firsts (record { rank = c.args.rank; n = c.args.n })))
