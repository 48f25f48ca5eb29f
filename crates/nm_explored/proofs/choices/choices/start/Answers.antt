-- A send has the length of its body.
use Rattle.std.proofs.Common.{◌≡◌, ◌<◌, Some, refl, sym, subst}
use Rattle.nm_types.specs.declared.scripts.Command.{Command}
use Rattle.nm_types.specs.Limits.{sent_len}
use Rattle.nm_explored.specs.Successors.{start_in}
use Rattle.nm_explored.proofs.choices.choices.start.Goals as goal

pub returns-in-Send : goal.returns-in-Send
returns-in-Send c =
    subst (λ (x : Command). sent_len x < 4294967296 →
    Some c.send.result ≡ start_in c.args.eager c.args.lines.now c.args.i c.args.rank.now c.args.line x)
    (sym c.in-Send.is)
    (λ short. rw (c.send.ensures short, c.deeds-deeds.ensures) refl)
