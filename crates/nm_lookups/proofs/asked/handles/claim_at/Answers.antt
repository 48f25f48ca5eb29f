use Rattle.std.proofs.Common.{◌∙◌, sym}
use Rattle.std.specs.Prelude.{option_map}
use Rattle.nm_history.specs.declared.events.Event.{Event}
use Rattle.nm_history.specs.Answers.{message_claimed}
use Rattle.nm_lookups.specs.AskedFor.{message_meant}
use Rattle.nm_lookups.proofs.GivenLemmas.{given_before, given_later, given_never}
use Rattle.nm_lookups.proofs.RequestLemmas.{an_event}
use Rattle.nm_lookups.proofs.asked.handles.claim_at.Goals as goal

pub returns-then-place-k : goal.returns-then-place-k
returns-then-place-k c =
    given_before (λ (e : Event). message_claimed c.args.line e.what) c.args.events.now c.args.k an_event
    c.in-Some.place.now (option_map message_meant c.message_there.result)
    (sym (c.in-Some.ensures.value ∙ c.requires.claims c.args.line)) c.if-place-k.true
    (c.message_there.ensures c.args.line)

pub returns-else-place-k : goal.returns-else-place-k
returns-else-place-k c =
    given_later (λ (e : Event). message_claimed c.args.line e.what) c.args.events.now c.args.k c.in-Some.place.now
    (sym (c.in-Some.ensures.value ∙ c.requires.claims c.args.line)) c.if-place-k.false

pub returns-in-None : goal.returns-in-None
returns-in-None c =
    given_never (λ (e : Event). message_claimed c.args.line e.what) c.args.events.now c.args.k
    (sym (c.in-None.ensures.value ∙ c.requires.claims c.args.line))
