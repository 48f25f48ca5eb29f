use Rattle.std.proofs.Common.{ℕ, Option, take, ◌∙◌, ap}
use Rattle.std.specs.Prelude.{option_and_then}
use Rattle.nm_history.specs.Answers.{request_at}
use Rattle.nm_lookups.proofs.asked.asked.live.Goals as goal

pub returns-in-Some : goal.returns-in-Some
returns-in-Some c = λ commands named.
    c.request_at.ensures ∙ ap (λ (o : Option ℕ). option_and_then (request_at (take c.args.k c.args.events.now)) o)
    (c.in-Some.ensures.value ∙ named c.args.q)

pub returns-in-None : goal.returns-in-None
returns-in-None c = λ commands named.
    ap (λ (o : Option ℕ). option_and_then (request_at (take c.args.k c.args.events.now)) o)
    (c.in-None.ensures.value ∙ named c.args.q)
