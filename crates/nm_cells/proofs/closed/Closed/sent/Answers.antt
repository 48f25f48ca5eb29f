use Rattle.std.proofs.Common.{ap, ◌∙◌}
use Rattle.nm_cells.proofs.closed.Closed.sent.Goals as goal

pub returns : goal.returns
returns g c = let r = c.requires in
    ap (λ p. p.sent) c.peer.ensures ∙ c.args.self.now.tallied.sent c.args.from c.args.to r.0 r.1
