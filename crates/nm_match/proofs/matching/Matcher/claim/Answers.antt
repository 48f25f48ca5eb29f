-- The message leaves the queue of the free ones for the claimed ones.
use Rattle.std.proofs.Common.{◌∙◌, ◌++◌, ◌∷◌, [], Bool, sym}
use Rattle.nm_types.specs.declared.messages.Arrival.{Arrival}
use Rattle.nm_history.specs.Selection.{matches}
use Rattle.nm_match.specs.Queues.{without_first}
use Rattle.nm_match.proofs.DeedLemmas.{claim-some, first_message-queue}
use Rattle.nm_match.proofs.HeldLemmas.{arrivals_apart}
use Rattle.nm_match.proofs.SeenLemmas.{names_claim}
use Rattle.nm_match.proofs.matching.Matcher.claim.Goals as goal

pub invariant_of-self : goal.invariant_of-self
invariant_of-self c =
    let h = c.self.invariant in
    let deeds = c.self.inside.done.items in
    let next = c.self.inside.next in
    let test : Arrival → Bool = λ a. matches c.args.from c.args.tag c.args.ctx a.env in
    let is_first = sym (c.in-Some.ensures.oldest h.unexpected h.claimed next h.messages) in
    rw c.then-self-inside.ensures (record {
      posted = h.posted;
      unexpected = without_first test h.unexpected;
      claimed = h.claimed ++ c.in-Some.a ∷ [];
      cancelled = h.cancelled;
      receives = h.receives;
      messages = c.in-Some.ensures.others h.unexpected h.claimed next (arrivals_apart deeds h.queues) h.messages;
      queues = claim-some deeds h.queues test c.in-Some.a is_first;
      names = names_claim deeds h.names c.in-Some.a.env.from c.in-Some.a.n;
    })

pub invariant_of-self-in-None : goal.invariant_of-self-in-None
invariant_of-self-in-None c =
    let h = c.self.invariant in record {
      posted = h.posted;
      unexpected = h.unexpected;
      claimed = h.claimed;
      cancelled = h.cancelled;
      receives = h.receives;
      messages = c.in-None.ensures.others h.unexpected h.claimed c.self.inside.next
          (arrivals_apart c.self.inside.done.items h.queues) h.messages;
      queues = h.queues;
      names = h.names;
    }

pub returns-in-Some-clause-oldest : goal.returns-in-Some-clause-oldest
returns-in-Some-clause-oldest c =
    let h = c.self.invariant in
    rw (← c.self.view_is) (c.in-Some.ensures.oldest h.unexpected h.claimed c.self.inside.next
    h.messages ∙ first_message-queue h.queues c.args.from c.args.tag c.args.ctx)

pub returns-in-None-clause-oldest : goal.returns-in-None-clause-oldest
returns-in-None-clause-oldest c =
    let h = c.self.invariant in
    rw (← c.self.view_is) (c.in-None.ensures.oldest h.unexpected h.claimed c.self.inside.next
    h.messages ∙ first_message-queue h.queues c.args.from c.args.tag c.args.ctx)
