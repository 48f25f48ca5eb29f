use Rattle.std.proofs.Common.{ap, ◌∙◌}
use Rattle.nm_cells.proofs.PortLemmas.{peer_sent}
use Rattle.nm_cells.proofs.port.Port.sent.Goals as goal

pub returns : goal.returns
returns g c = ap (λ x. x.sent) c.peer.ensures ∙ peer_sent c.args.self.now c.args.to c.requires
