-- A message that no open receive selects joins the queue; otherwise the receive leaves its queue.
use Rattle.std.proofs.Common.{◌∙◌, ◌+◌, ◌++◌, ◌∷◌, [], Bool, Option, refl, sym, ap, arith}
use Rattle.std.specs.Option.{option_map}
use Rattle.nm_types.specs.declared.messages.Post.{Post}
use Rattle.nm_history.specs.Selection.{matches}
use Rattle.nm_match.specs.Queues.{without_first}
use Rattle.nm_match.proofs.DeedLemmas.{arrive-none, arrive-some, first_receive-queue, not_cancelled}
use Rattle.nm_match.proofs.HeldLemmas.{message_fresh, receives_apart}
use Rattle.nm_match.proofs.ListLemmas.{without_first-none}
use Rattle.nm_match.proofs.SeenLemmas.{names_arrive, names_kept, next_small, seen_more}
use Rattle.nm_match.proofs.matching.Matcher.arrive.Goals as goal

pub invariant_of-self : goal.invariant_of-self
invariant_of-self c =
    let h = c.self.invariant in record {
      posted = h.posted;
      unexpected = h.unexpected;
      claimed = h.claimed;
      cancelled = h.cancelled;
      receives = h.receives;
      messages = h.messages;
      queues = h.queues;
      names = names_kept c.self.inside.done.items h.names c.self.inside.receives c.make_room.new.self
          (λ i. refl) c.make_room.ensures.same (λ few. few) c.make_room.ensures.few;
    }

pub invariant_of-self-in-Some : goal.invariant_of-self-in-Some
invariant_of-self-in-Some c =
    let h = c.self.invariant in
    let deeds = c.self.inside.done.items in
    let next = c.self.inside.next in
    let test : Post → Bool = λ p. matches p.from p.tag p.ctx c.args.a.env in
    let new = rw (← c.self.view_is) at c.requires.is_new in
    let is_first = sym (c.in-Some.ensures.oldest h.posted h.cancelled c.self.inside.order h.receives) in
    rw c.then-self-inside.ensures (record {
      posted = without_first test h.posted;
      unexpected = h.unexpected;
      claimed = h.claimed;
      cancelled = h.cancelled;
      receives = c.in-Some.ensures.others h.posted h.cancelled c.self.inside.order (receives_apart deeds h.queues)
          h.receives (not_cancelled h.queues test c.in-Some.p is_first);
      messages = h.messages;
      queues = arrive-some deeds h.queues c.args.a c.in-Some.p new is_first;
      names = names_arrive deeds h.names c.args.a next c.add.new.self c.message_id-id.ensures.small.0
          c.message_id-id.ensures.small.1 (omega arith) new
          (seen_more c.self.inside.messages c.make_room.new.self c.add.new.self c.message_id-id.ensures.id
          c.make_room.ensures.same c.make_room.ensures.few c.add.ensures.added c.add.ensures.few);
    })

pub invariant_of-self-in_err-put-in-None : goal.invariant_of-self-in_err-put-in-None
invariant_of-self-in_err-put-in-None c =
    let h = c.self.invariant in
    let deeds = c.self.inside.done.items in
    let next = c.self.inside.next in record {
      posted = h.posted;
      unexpected = h.unexpected;
      claimed = h.claimed;
      cancelled = h.cancelled;
      receives = c.in-None.ensures.others h.posted h.cancelled c.self.inside.order
          (receives_apart deeds h.queues) h.receives;
      messages = c.in_err-put-in-None.ensures.err h.unexpected h.claimed next h.messages;
      queues = h.queues;
      names = names_kept deeds h.names c.self.inside.receives c.make_room.new.self (λ i. refl)
          c.make_room.ensures.same (λ few. few) c.make_room.ensures.few;
    }

pub invariant_of-self-in-None : goal.invariant_of-self-in-None
invariant_of-self-in-None c =
    let h = c.self.invariant in
    let deeds = c.self.inside.done.items in
    let next = c.self.inside.next in
    let test : Post → Bool = λ p. matches p.from p.tag p.ctx c.args.a.env in
    let new = rw (← c.self.view_is) at c.requires.is_new in
    let none = sym (c.in-None.ensures.oldest h.posted h.cancelled c.self.inside.order h.receives) in
    let left = c.in-None.ensures.others h.posted h.cancelled c.self.inside.order (receives_apart deeds h.queues)
    h.receives in
    rw c.then-self-inside-in-None.ensures (record {
      posted = h.posted;
      unexpected = h.unexpected ++ c.args.a ∷ [];
      claimed = h.claimed;
      cancelled = h.cancelled;
      receives = left;
      messages = c.in_ok-put-in-None.ensures.ok h.unexpected h.claimed h.messages
          (message_fresh deeds h.queues c.args.a.env.from c.args.a.n new);
      queues = rw (without_first-none test h.posted none) at (arrive-none deeds h.queues c.args.a new none);
      names = names_arrive deeds h.names c.args.a (next + 1) c.add-in-None.new.self c.message_id-id.ensures.small.0
          c.message_id-id.ensures.small.1 (omega arith) new
          (seen_more c.self.inside.messages c.make_room.new.self c.add-in-None.new.self c.message_id-id.ensures.id
          c.make_room.ensures.same c.make_room.ensures.few c.add-in-None.ensures.added c.add-in-None.ensures.few);
    })

pub returns-in-Some-clause-oldest : goal.returns-in-Some-clause-oldest
returns-in-Some-clause-oldest c =
    let h = c.self.invariant in
    rw (← c.self.view_is) (ap (λ (o : Option Post). option_map (λ p. p.number) o)
    (c.in-Some.ensures.oldest h.posted h.cancelled c.self.inside.order h.receives
    ∙ first_receive-queue h.queues c.args.a.env))

pub returns-in_ok-put-in-None-clause-oldest : goal.returns-in_ok-put-in-None-clause-oldest
returns-in_ok-put-in-None-clause-oldest c =
    let h = c.self.invariant in
    rw (← c.self.view_is) (ap (λ (o : Option Post). option_map (λ p. p.number) o)
    (c.in-None.ensures.oldest h.posted h.cancelled c.self.inside.order h.receives
    ∙ first_receive-queue h.queues c.args.a.env))

pub overflow_add-self : goal.overflow_add-self
overflow_add-self c =
    let h = c.self.invariant in
    let small = next_small c.self.inside.done.items h.names h.queues.in_turn.two_receives
    h.queues.in_turn.two_messages in
    omega (arith, small)
