-- The same messages wait.
use Rattle.nm_match.proofs.matching.Matcher.prepare.Goals as goal

pub invariant_of-self : goal.invariant_of-self
invariant_of-self c =
    let held = c.self.invariant in
    record {
      posted = held.posted;
      unexpected = held.unexpected;
      claimed = held.claimed;
      cancelled = held.cancelled;
      receives = held.receives;
      messages = c.index.ensures held.unexpected held.claimed c.self.inside.next held.messages;
      queues = held.queues;
      names = held.names;
    }
