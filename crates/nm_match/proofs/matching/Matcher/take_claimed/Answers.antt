-- The message leaves the claimed ones.
use Rattle.std.proofs.Common.{not, refl}
use Rattle.std.specs.List.{filter}
use Rattle.nm_types.specs.declared.messages.Arrival.{Arrival}
use Rattle.nm_match.specs.Deeds.{is_message}
use Rattle.nm_match.proofs.DeedLemmas.{claimed_unqueued, receive_claimed}
use Rattle.nm_match.proofs.SeenLemmas.{names_kept, names_matched, seen_more}
use Rattle.nm_match.proofs.matching.Matcher.take_claimed.Goals as goal

pub invariant_of-self : goal.invariant_of-self
invariant_of-self c =
    let h = c.self.invariant in record {
      posted = h.posted;
      unexpected = h.unexpected;
      claimed = h.claimed;
      cancelled = h.cancelled;
      receives = h.receives;
      messages = h.messages;
      queues = h.queues;
      names = names_kept c.self.inside.done.items h.names c.make_room.new.self c.self.inside.messages
          c.make_room.ensures.same (λ i. refl) c.make_room.ensures.few (λ few. few);
    }

pub invariant_of-self-2 : goal.invariant_of-self-2
invariant_of-self-2 c =
    let h = c.self.invariant in
    let deeds = c.self.inside.done.items in
    let new = rw (← c.self.view_is) at c.requires.is_new in
    let claimed = rw (← c.self.view_is) at c.requires.claimed in
    rw c.then-self-inside.ensures (record {
      posted = h.posted;
      unexpected = h.unexpected;
      claimed = filter (λ (a : Arrival). not (is_message c.args.from c.args.n a)) h.claimed;
      cancelled = h.cancelled;
      receives = h.receives;
      messages = c.take_claimed.ensures.left h.unexpected h.claimed c.self.inside.next h.messages
          (claimed_unqueued h.queues c.args.from c.args.n claimed);
      queues = receive_claimed deeds h.queues c.args.number c.args.from c.args.n new claimed;
      names = names_matched deeds h.names c.args.number c.args.from c.args.n c.add.new.self new
          (seen_more c.self.inside.receives c.make_room.new.self c.add.new.self c.receive_id-id.ensures.id
          c.make_room.ensures.same c.make_room.ensures.few c.add.ensures.added c.add.ensures.few);
    })
