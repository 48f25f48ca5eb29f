use Rattle.std.proofs.Common.{ap, ◌∙◌}
use Rattle.nm_cells.proofs.PortLemmas.{peer_full}
use Rattle.nm_cells.proofs.port.Port.box_full.Goals as goal

pub returns : goal.returns
returns g c = ap (λ x. x.box_full) c.peer.ensures ∙ peer_full c.args.self.now c.args.to c.requires
