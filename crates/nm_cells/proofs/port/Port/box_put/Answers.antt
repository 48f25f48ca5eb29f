use Rattle.std.proofs.Common.{ap, ◌∙◌}
use Rattle.nm_cells.proofs.PortLemmas.{peer_box_put}
use Rattle.nm_cells.proofs.port.Port.box_put.Goals as goal

pub returns : goal.returns
returns g c = ap (λ x. x.box_put) c.peer.ensures ∙ peer_box_put c.args.self.now c.args.to c.requires
