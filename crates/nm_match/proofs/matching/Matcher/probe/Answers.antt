-- The oldest message of the queue is the first free one.
use Rattle.std.proofs.Common.{◌∙◌}
use Rattle.nm_match.proofs.DeedLemmas.{first_message-queue}
use Rattle.nm_match.proofs.matching.Matcher.probe.Goals as goal

pub returns : goal.returns
returns c = record {
  oldest = let h = c.self.invariant in
      rw (← c.self.view_is) (c.oldest.ensures h.unexpected h.claimed c.self.inside.next h.messages
      ∙ first_message-queue h.queues c.args.from c.args.tag c.args.ctx);
}
