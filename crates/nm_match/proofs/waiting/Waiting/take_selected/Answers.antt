-- What is selected is taken from under all names.
use Rattle.std.proofs.Common.{refl, sym, subst, ◌∙◌}
use Rattle.nm_types.specs.declared.messages.Arrival.{Arrival}
use Rattle.nm_match.specs.declared.buckets.Buckets.{Buckets}
use Rattle.nm_match.specs.Buckets.{AreBuckets, IsTaken, bucket_of}
use Rattle.nm_match.specs.Picks.{picks_of_arrival}
use Rattle.nm_match.proofs.waiting.Waiting.take_selected.Goals as goal

pub returns-in_err-order-clause-oldest : goal.returns-in_err-order-clause-oldest
returns-in_err-order-clause-oldest c = λ queue next are held.
    c.from_residual.ensures ∙ c.in_err-order.ensures queue next
    (subst (λ (b : Buckets Arrival). AreBuckets picks_of_arrival queue next (bucket_of b.map))
    (sym c.index.ensures.named) are) (c.index.ensures.wildcards queue next are held)

pub returns-clause-oldest : goal.returns-clause-oldest
returns-clause-oldest c = λ queue next are held.
    c.in_ok-order.ensures queue next
    (subst (λ (b : Buckets Arrival). AreBuckets picks_of_arrival queue next (bucket_of b.map))
    (sym c.index.ensures.named) are) (c.index.ensures.wildcards queue next are held)

pub returns-clause-taken : goal.returns-clause-taken
returns-clause-taken c = λ queue next are held. (
  subst (λ (b : Buckets Arrival). IsTaken (picks_of_arrival c.in_ok-order.a) c.in_ok-order.order
      (bucket_of b.map) (bucket_of c.take.new.self.named.map)) c.index.ensures.named
      (rw c.of_arrival.ensures at c.take.ensures.named),
  (λ test found. c.take.ensures.wildcards queue next (bucket_of c.args.self.now.named.map) test
      (c.in_ok-order.order, c.in_ok-order.a) are found refl (sym c.of_arrival.ensures)
      (c.index.ensures.wildcards queue next are held)),
)
