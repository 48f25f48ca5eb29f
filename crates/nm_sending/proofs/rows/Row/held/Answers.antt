use Rattle.std.proofs.Common.{◌+◌, ◌∙◌, ap, sym}
use Rattle.nm_sending.proofs.RecalledLemmas.{length-all}
use Rattle.nm_sending.proofs.rows.Row.held.Goals as goal

pub returns : goal.returns
returns c =
    let a = c.self.inside in
    rw (← c.self.view_is)
    (ap (λ k. k + c.held.result) (sym c.self.invariant.first)
    ∙ c.held.ensures ∙ sym (length-all a.recalls.entries 0 a.sent.items))
