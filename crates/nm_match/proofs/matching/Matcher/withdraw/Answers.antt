-- A message of the queue is free; one that came and is not there is not free.
use Rattle.std.proofs.Common.{◌∙◌, sym}
use Rattle.std.specs.List.{find}
use Rattle.nm_match.specs.Deeds.{is_message}
use Rattle.nm_match.specs.Queues.{without_first}
use Rattle.nm_match.proofs.DeedLemmas.{message_free, message_late, queued_unclaimed, withdraw-some}
use Rattle.nm_match.proofs.HeldLemmas.{arrivals_apart, none_found, some_found}
use Rattle.nm_match.proofs.SeenLemmas.{names_withdraw}
use Rattle.nm_match.proofs.matching.Matcher.withdraw.Goals as goal

pub invariant_of-self : goal.invariant_of-self
invariant_of-self c =
    let h = c.self.invariant in
    let deeds = c.self.inside.done.items in
    let next = c.self.inside.next in
    let first = some_found (find (is_message c.args.from c.args.n) h.unexpected)
    (sym (c.withdraw-was_free.ensures.found h.unexpected h.claimed next h.messages) ∙ c.if-was_free.true) in
    let unclaimed = h.queues.claimed_messages c.args.from c.args.n
    ∙ queued_unclaimed h.queues c.args.from c.args.n first.0 first.1 in
    rw c.then-self-inside.ensures (record {
      posted = h.posted;
      unexpected = without_first (is_message c.args.from c.args.n) h.unexpected;
      claimed = h.claimed;
      cancelled = h.cancelled;
      receives = h.receives;
      messages = c.withdraw-was_free.ensures.others c.if-was_free.true h.unexpected h.claimed next
          (arrivals_apart deeds h.queues) h.messages unclaimed;
      queues = withdraw-some deeds h.queues c.args.from c.args.n first.0 first.1;
      names = names_withdraw deeds h.names c.args.from c.args.n;
    })

pub invariant_of-self-else-was_free : goal.invariant_of-self-else-was_free
invariant_of-self-else-was_free c = rw (c.withdraw-was_free.ensures.same c.if-was_free.false) c.self.invariant

pub returns-then-was_free-clause-late : goal.returns-then-was_free-clause-late
returns-then-was_free-clause-late c =
    let h = c.self.invariant in
    let first = some_found (find (is_message c.args.from c.args.n) h.unexpected)
    (sym (c.withdraw-was_free.ensures.found h.unexpected h.claimed c.self.inside.next h.messages)
    ∙ c.if-was_free.true) in
    rw (← c.self.view_is) (c.if-was_free.true ∙ sym (message_free h.queues c.args.from c.args.n first.0 first.1))

pub returns-else-was_free-clause-late : goal.returns-else-was_free-clause-late
returns-else-was_free-clause-late c =
    let h = c.self.invariant in
    let none = none_found (find (is_message c.args.from c.args.n) h.unexpected)
    (sym (c.withdraw-was_free.ensures.found h.unexpected h.claimed c.self.inside.next h.messages)
    ∙ c.if-was_free.false) in
    let known = rw (← c.self.view_is) at c.requires.known in
    rw (← c.self.view_is) (c.if-was_free.false ∙ sym (message_late h.queues c.args.from c.args.n known none))
