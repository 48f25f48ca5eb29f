use Rattle.std.proofs.Common.{sym, ◌∙◌}
use Rattle.nm_receiving.proofs.Lives.{cancelled_before}
use Rattle.nm_receiving.proofs.receives.Receives.cancel.Goals as goal

pub returns-in-None : goal.returns-in-None
returns-in-None c =
    cancelled_before c.args.self.now.items c.args.number (sym c.live.ensures ∙ c.in-None.is) c.requires
