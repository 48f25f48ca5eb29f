-- What is let go is free.
use Rattle.std.proofs.Common.{◌≡◌, ◌∙◌, Some, None, rules, sym, ap, get_or, arith}
use Rattle.nm_match.proofs.RowLemmas.{free_beyond, one_free}
use Rattle.nm_match.proofs.standings.trim.Goals as goal

pub loop-places-preserved : goal.loop-places-preserved
loop-places-preserved c =
    let popped : c.pop.result ≡ Some None = search rules in
    let split = rw popped at c.pop.ensures.items in
    let was = c.loop-places.invariant.1 in
    let shorter = c.pop.ensures.len in (
      λ i. sym (ap (λ l. get_or l i None) split ∙ free_beyond c.pop.new.self.items _ one_free i)
          ∙ c.loop-places.invariant.0 i,
      omega (arith, was, shorter),
    )
