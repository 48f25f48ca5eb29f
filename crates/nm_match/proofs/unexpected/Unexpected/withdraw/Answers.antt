-- The one of this name leaves its bucket.
use Rattle.std.proofs.Common.{◌∙◌, ℕ, ap, refl, sym, is_some}
use Rattle.indexmap.specs.IndexMap.{get}
use Rattle.nm_match.specs.Buckets.{bucket_of}
use Rattle.nm_types.specs.declared.messages.Arrival.{Arrival}
use Rattle.nm_match.specs.Names.{has_id, has_one, id_of_arrival, same_message}
use Rattle.nm_match.specs.Queues.{TwoMessages}
use Rattle.nm_match.proofs.NameLemmas.{at_place, message_itself, no_place, place_found, place_taken, same_message-true, there_at}
use Rattle.nm_match.proofs.OldestLemmas.{messages_apart}
use Rattle.nm_match.proofs.WildcardLemmas.{unexpected_in}
use Rattle.nm_match.proofs.unexpected.Unexpected.withdraw.Goals as goal

pub returns-in-Some-clause-found : goal.returns-in-Some-clause-found
returns-in-Some-clause-found c = λ arrivals claimed next is.
    sym (ap is_some (place_found is.named c.args.id c.in-Some.key c.in-Some.order c.in-Some.ensures.some).1)

pub returns-in-Some-clause-others : goal.returns-in-Some-clause-others
returns-in-Some-clause-others c = λ yes arrivals claimed next two is stays.
    let updates = c.swap_remove.ensures.updates.0 in
    let at = at_place is.named c.args.id c.in-Some.key c.in-Some.order c.in-Some.ensures.some in
    unexpected_in (place_taken is.named same_message (bucket_of c.take.new.self.named.map)
    (get same_message c.swap_remove.new.self)
    TwoMessages two
    (λ a b id. messages_apart id.rank id.n a b) c.args.id c.in-Some.key c.in-Some.order c.in-Some.ensures.some
    (λ a here id. ap (λ m. same_message m id) (same_message-true (id_of_arrival a) c.args.id here))
    c.take.ensures.named.0 c.take.ensures.named.1 (has_one claimed) (λ id other. refl)
    (there_at same_message-true (has_one claimed) (get same_message c.swap_remove.new.self) c.args.id
    (updates c.args.id ∙ rw (message_itself c.args.id, stays) refl))
    (λ id other. updates id ∙ rw other refl))
    (c.take.ensures.wildcards is.named.is.queue next (bucket_of c.args.self.now.waiting.named.map)
    (λ (y : ℕ × Arrival). has_id y.1 c.args.id) at.0 is.named.is.are at.1 at.3 at.2 is.wildcards)

pub returns-in-None-clause-found : goal.returns-in-None-clause-found
returns-in-None-clause-found c = λ arrivals claimed next is.
    sym (ap is_some (no_place is.named c.args.id (c.in-None.ensures.none refl)))
