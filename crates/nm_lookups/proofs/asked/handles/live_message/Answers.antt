use Rattle.std.proofs.Common.{ℕ, Option, take, ◌∙◌, ap}
use Rattle.std.specs.Prelude.{option_and_then}
use Rattle.nm_history.specs.Answers.{claim_at}
use Rattle.nm_lookups.proofs.asked.handles.live_message.Goals as goal

pub returns-in-Some : goal.returns-in-Some
returns-in-Some c = λ commands named.
    c.claim_at.ensures ∙ ap (λ (o : Option ℕ). option_and_then (claim_at (take c.args.k c.args.events.now)) o)
    (c.in-Some.ensures.value ∙ named c.args.m)

pub returns-in-None : goal.returns-in-None
returns-in-None c = λ commands named.
    ap (λ (o : Option ℕ). option_and_then (claim_at (take c.args.k c.args.events.now)) o)
    (c.in-None.ensures.value ∙ named c.args.m)
