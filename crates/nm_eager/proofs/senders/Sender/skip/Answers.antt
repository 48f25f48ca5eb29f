use Rattle.nm_eager.specs.Senders.{placed, standing}
use Rattle.nm_eager.proofs.SenderLemmas.{none-closed, counts, counts-places}
use Rattle.nm_eager.proofs.senders.Sender.skip.Goals as goal

pub invariant_of-self : goal.invariant_of-self
invariant_of-self c =
    let s = c.self.inside in
    let kept = c.self.invariant.1 in
    let closed = none-closed s.count (standing (placed s.first s.whole.items)) _ s.unfinished kept
    (rw (← c.self.view_is) at c.requires.closed) in (
      c.self.invariant.0,
      counts s.count (standing (placed s.first s.whole.items)) _ s.unfinished kept closed,
      counts-places s.first s.count (placed s.first s.whole.items) s.unfinished c.self.invariant.2
          (rw (← c.self.view_is) at c.requires.limit),
      c.self.invariant.3,
    )
