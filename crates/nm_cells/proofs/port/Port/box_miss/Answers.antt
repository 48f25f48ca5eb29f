use Rattle.std.proofs.Common.{ap, ◌∙◌}
use Rattle.nm_cells.proofs.PortLemmas.{peer_miss}
use Rattle.nm_cells.proofs.port.Port.box_miss.Goals as goal

pub returns : goal.returns
returns g c = ap (λ x. x.box_miss) c.peer.ensures ∙ peer_miss c.args.self.now c.args.from c.requires
