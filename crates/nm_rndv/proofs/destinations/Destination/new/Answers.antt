use Rattle.nm_kept.proofs.EntryLemmas.{live_none}
use Rattle.nm_rndv.specs.Offers.{has_body, is_unanswered}
use Rattle.nm_rndv.proofs.destinations.Destination.new.Goals as goal

pub invariant_of-result : goal.invariant_of-result
invariant_of-result c = (
  live_none has_body c.new.result c.new.ensures.entries c.new.ensures.live,
  live_none is_unanswered c.new-2.result c.new-2.ensures.entries c.new-2.ensures.live,
)
