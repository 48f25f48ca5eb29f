use Rattle.std.proofs.Common.{ap, ◌∙◌}
use Rattle.nm_cells.proofs.closed.Closed.taken.Goals as goal

pub returns : goal.returns
returns g c = let r = c.requires in
    ap (λ p. p.taken) c.peer.ensures ∙ c.args.self.now.tallied.taken c.args.from c.args.to r.0 r.1
