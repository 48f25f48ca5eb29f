use Rattle.std.proofs.Common.{◌≡◌, ◌∙◌, ap, arith, length, nat_lt}
use Rattle.nm_rndv.specs.Grants.{FromSender, has_unfinished}
use Rattle.nm_rndv.proofs.GrantLemmas.{unfinished_seen}
use Rattle.nm_rndv.proofs.senders.Sender.has_unfinished.Goals as goal

pub returns : goal.returns
returns c =
    let a = c.self.inside in
    let many : c.len.result ≡ length a.unfinished.items = omega (arith, c.len.ensures, a.unfinished.ok.0) in
    ap (nat_lt 0) (many ∙ ap length c.self.invariant.numbers) ∙ unfinished_seen a.grants.entries
    ∙ ap (λ (v : FromSender). has_unfinished v.grants) c.self.view_is
