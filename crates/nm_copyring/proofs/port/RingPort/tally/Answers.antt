use Rattle.std.proofs.Common.{◌<◌, ap, ◌∙◌, sym, subst, length}
use Rattle.std.proofs.lemmas.List.{length-map}
use Rattle.nm_copyring.specs.Counted.{tally}
use Rattle.nm_copyring.specs.Ports.{knows}
use Rattle.nm_copyring.proofs.PortLemmas.{tally_at}
use Rattle.nm_copyring.proofs.port.RingPort.tally.Goals as goal

pub index-requires : goal.index-requires
index-requires c = let p = c.args.self.now in subst (λ k. c.args.rank < k) (sym (p.tallies.ok.0
    ∙ ap length p.counts ∙ length-map (knows p).lanes tally ∙ p.wide)) c.requires

pub returns : goal.returns
returns c = let p = c.args.self.now in
    tally_at (knows p) p.tallies.items c.args.rank c.index.result.now p.counts
    (subst (λ k. c.args.rank < k)
    (sym (ap length p.counts ∙ length-map (knows p).lanes tally ∙ p.wide)) c.requires)
    c.index.ensures
