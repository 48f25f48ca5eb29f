use Rattle.std.proofs.Common.{◌∙◌, sym}
use Rattle.nm_sending.proofs.RecalledLemmas.{length-all}
use Rattle.nm_sending.proofs.rows.Row.count.Goals as goal

pub returns : goal.returns
returns c =
    let a = c.self.inside in
    rw (← c.self.view_is) (c.len.ensures ∙ sym (length-all a.recalls.entries 0 a.sent.items))
