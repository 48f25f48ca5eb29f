use Rattle.std.proofs.Common.{ap, ◌∙◌}
use Rattle.nm_cells.proofs.PortLemmas.{peer_box_got}
use Rattle.nm_cells.proofs.port.Port.box_got.Goals as goal

pub returns : goal.returns
returns g c = ap (λ x. x.box_got) c.peer.ensures ∙ peer_box_got c.args.self.now c.args.from c.requires
