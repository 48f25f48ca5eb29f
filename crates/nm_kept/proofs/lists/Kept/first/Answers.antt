use Rattle.std.proofs.Common.{Bor, arith, length}
use Rattle.nm_kept.proofs.WindowLemmas.{lent-behind}
use Rattle.nm_kept.proofs.lists.Kept.first.Goals as goal

pub returns : goal.returns
returns g c =
    let a = c.self.inside in
    rw (← c.self.view_is) (lent-behind (λ (x : Bor _). x.now) a.past.items a.window.items 0 (length a.past.items)
    c.front.result (omega arith) (λ some. omega (arith, c.front.ensures.variant.0 some, a.window.ok.0))
    (λ lt. c.front.ensures.variant.1 (omega (arith, lt, a.window.ok.0))) c.front.ensures.lookup)
