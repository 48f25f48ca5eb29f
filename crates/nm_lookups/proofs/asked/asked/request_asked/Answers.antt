use Rattle.std.proofs.Common.{ℕ, Option, take, ◌∙◌, ap}
use Rattle.std.specs.Prelude.{option_and_then}
use Rattle.nm_types.specs.Commands.{commands_of}
use Rattle.nm_history.specs.Answers.{live}
use Rattle.nm_lookups.proofs.asked.asked.request_asked.Goals as goal

pub returns-in-Some : goal.returns-in-Some
returns-in-Some c =
    c.live.ensures (commands_of c.args.rank c.args.lines.now) c.requires.named
    ∙ ap (λ (o : Option ℕ). option_and_then (live (commands_of c.args.rank c.args.lines.now)
    (take c.args.k c.args.events.now)) o) c.in-Some.ensures

pub returns-in-None : goal.returns-in-None
returns-in-None c =
    ap (λ (o : Option ℕ). option_and_then (live (commands_of c.args.rank c.args.lines.now)
    (take c.args.k c.args.events.now)) o) c.in-None.ensures
