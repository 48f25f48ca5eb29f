use Rattle.std.proofs.Common.{sym}
use Rattle.std.proofs.lemmas.Bool.{false≢true}
use Rattle.nm_receiving.proofs.Lives.{none_live}
use Rattle.nm_receiving.proofs.receives.Receives.live.Goals as goal

pub returns-in-None : goal.returns-in-None
returns-in-None c =
    rw (← c.self.view_is) (sym (none_live c.self.inside.kept c.self.invariant c.args.number
    (λ held. false≢true (c.in-None.ensures.held.1 held))))
