use Rattle.std.proofs.Common.{◌≡◌, ◌+◌, Bool, List, ap, arith, length, subst}
use Rattle.std.proofs.lemmas.List.{length-map}
use Rattle.nm_receiving.specs.Rows.{is_settled, messages_of, settled_before}
use Rattle.nm_receiving.proofs.rows.Row.held.Goals as goal

pub returns : goal.returns
returns c =
    let a = c.self.inside in
    let rs = messages_of a.marks.items in
    let many = ap (λ (bs : List Bool). length bs) c.self.invariant.each in
    rw (← c.self.view_is)
    (subst (λ (bs : List Bool). settled_before bs + c.held.result ≡ length rs) c.self.invariant.each
    (omega (arith, c.self.invariant.first, c.held.ensures, many, length-map rs is_settled)))
