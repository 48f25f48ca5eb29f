-- A receive that selects no free message joins the queue; otherwise the message leaves its queue.
use Rattle.std.proofs.Common.{◌∙◌, ◌+◌, ◌++◌, ◌∷◌, [], Bool, refl, sym, arith}
use Rattle.nm_types.specs.declared.messages.Arrival.{Arrival}
use Rattle.nm_history.specs.Selection.{matches}
use Rattle.nm_match.specs.Queues.{without_first}
use Rattle.nm_match.proofs.DeedLemmas.{first_message-queue, not_claimed, post-none, post-some}
use Rattle.nm_match.proofs.HeldLemmas.{arrivals_apart, number_fresh, receives_apart}
use Rattle.nm_match.proofs.ListLemmas.{without_first-none}
use Rattle.nm_match.proofs.SeenLemmas.{names_kept, names_post, order_small, seen_more}
use Rattle.nm_match.proofs.matching.Matcher.post.Goals as goal

pub invariant_of-self : goal.invariant_of-self
invariant_of-self c =
    let h = c.self.invariant in record {
      posted = h.posted;
      unexpected = h.unexpected;
      claimed = h.claimed;
      cancelled = h.cancelled;
      receives = h.receives;
      messages = h.messages;
      queues = h.queues;
      names = names_kept c.self.inside.done.items h.names c.make_room.new.self c.self.inside.messages
          c.make_room.ensures.same (λ i. refl) c.make_room.ensures.few (λ few. few);
    }

pub invariant_of-self-in-Some : goal.invariant_of-self-in-Some
invariant_of-self-in-Some c =
    let h = c.self.invariant in
    let deeds = c.self.inside.done.items in
    let next = c.self.inside.next in
    let test : Arrival → Bool = λ a. matches c.args.p.from c.args.p.tag c.args.p.ctx a.env in
    let new = rw (← c.self.view_is) at c.requires.is_new in
    let is_first = sym (c.in-Some.ensures.oldest h.unexpected h.claimed next h.messages) in
    rw c.then-self-inside.ensures (record {
      posted = h.posted;
      unexpected = without_first test h.unexpected;
      claimed = h.claimed;
      cancelled = h.cancelled;
      receives = h.receives;
      messages = c.in-Some.ensures.others h.unexpected h.claimed next (arrivals_apart deeds h.queues)
          h.messages (not_claimed h.queues test c.in-Some.a is_first);
      queues = post-some deeds h.queues c.args.p c.in-Some.a new is_first;
      names = names_post deeds h.names c.args.p c.self.inside.order c.add.new.self
          c.receive_id-id.ensures.small (omega arith) new
          (seen_more c.self.inside.receives c.make_room.new.self c.add.new.self c.receive_id-id.ensures.id
          c.make_room.ensures.same c.make_room.ensures.few c.add.ensures.added c.add.ensures.few);
    })

pub invariant_of-self-in_err-put-in-None : goal.invariant_of-self-in_err-put-in-None
invariant_of-self-in_err-put-in-None c =
    let h = c.self.invariant in
    let deeds = c.self.inside.done.items in
    let next = c.self.inside.next in record {
      posted = h.posted;
      unexpected = h.unexpected;
      claimed = h.claimed;
      cancelled = h.cancelled;
      receives = c.in_err-put-in-None.ensures.err h.posted h.cancelled c.self.inside.order h.receives;
      messages = c.in-None.ensures.others h.unexpected h.claimed next (arrivals_apart deeds h.queues) h.messages;
      queues = h.queues;
      names = names_kept deeds h.names c.make_room.new.self c.self.inside.messages c.make_room.ensures.same
          (λ i. refl) c.make_room.ensures.few (λ few. few);
    }

pub invariant_of-self-in-None : goal.invariant_of-self-in-None
invariant_of-self-in-None c =
    let h = c.self.invariant in
    let deeds = c.self.inside.done.items in
    let next = c.self.inside.next in
    let test : Arrival → Bool = λ a. matches c.args.p.from c.args.p.tag c.args.p.ctx a.env in
    let new = rw (← c.self.view_is) at c.requires.is_new in
    let none = sym (c.in-None.ensures.oldest h.unexpected h.claimed next h.messages) in
    let left = c.in-None.ensures.others h.unexpected h.claimed next (arrivals_apart deeds h.queues) h.messages in
    rw c.then-self-inside-in-None.ensures (record {
      posted = h.posted ++ c.args.p ∷ [];
      unexpected = h.unexpected;
      claimed = h.claimed;
      cancelled = h.cancelled;
      receives = c.in_ok-put-in-None.ensures.ok h.posted h.cancelled (receives_apart deeds h.queues) h.receives
          (number_fresh deeds h.queues c.args.p.number new);
      messages = left;
      queues = rw (without_first-none test h.unexpected none) at (post-none deeds h.queues c.args.p new none);
      names = names_post deeds h.names c.args.p (c.self.inside.order + 1) c.add-in-None.new.self
          c.receive_id-id.ensures.small (omega arith) new
          (seen_more c.self.inside.receives c.make_room.new.self c.add-in-None.new.self c.receive_id-id.ensures.id
          c.make_room.ensures.same c.make_room.ensures.few c.add-in-None.ensures.added c.add-in-None.ensures.few);
    })

pub returns-in-Some-clause-oldest : goal.returns-in-Some-clause-oldest
returns-in-Some-clause-oldest c =
    let h = c.self.invariant in
    rw (← c.self.view_is) (c.in-Some.ensures.oldest h.unexpected h.claimed c.self.inside.next
    h.messages ∙ first_message-queue h.queues c.args.p.from c.args.p.tag c.args.p.ctx)

pub returns-in_ok-put-in-None-clause-oldest : goal.returns-in_ok-put-in-None-clause-oldest
returns-in_ok-put-in-None-clause-oldest c =
    let h = c.self.invariant in
    rw (← c.self.view_is) (c.in-None.ensures.oldest h.unexpected h.claimed c.self.inside.next
    h.messages ∙ first_message-queue h.queues c.args.p.from c.args.p.tag c.args.p.ctx)

pub overflow_add-self : goal.overflow_add-self
overflow_add-self c =
    let h = c.self.invariant in
    let new = rw (← c.self.view_is) at c.requires.is_new in
    let small = order_small c.self.inside.done.items h.names h.queues.in_turn.two_receives c.args.p
    c.receive_id-id.ensures.small new in
    omega (arith, small)

pub overflow_cast-self-inside : goal.overflow_cast-self-inside
overflow_cast-self-inside c =
    let h = c.self.invariant in
    let new = rw (← c.self.view_is) at c.requires.is_new in
    let small = order_small c.self.inside.done.items h.names h.queues.in_turn.two_receives c.args.p
    c.receive_id-id.ensures.small new in
    omega (arith, small)
