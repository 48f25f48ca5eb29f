-- The oldest of all that fit leaves its bucket.
use Rattle.std.proofs.Common.{◌∙◌, ℕ, Some, None, ap, refl, sym}
use Rattle.nm_types.specs.declared.messages.Arrival.{Arrival}
use Rattle.nm_history.specs.Selection.{matches}
use Rattle.indexmap.specs.IndexMap.{get}
use Rattle.nm_match.specs.declared.buckets.Buckets.{Buckets}
use Rattle.nm_match.specs.Buckets.{bucket_of}
use Rattle.nm_match.specs.Names.{has_one, id_of_arrival, same_message}
use Rattle.nm_match.specs.Queues.{TwoMessages}
use Rattle.nm_match.proofs.BucketLemmas.{none_waits}
use Rattle.nm_match.proofs.NameLemmas.{message_itself, named_kept, named_taken, same_message-true}
use Rattle.nm_match.proofs.NameLemmas.{there_at}
use Rattle.nm_match.proofs.OldestLemmas.{arrival_found, messages_apart, selected_found}
use Rattle.nm_match.proofs.WildcardLemmas.{unexpected_in}
use Rattle.nm_match.proofs.unexpected.Unexpected.take_oldest.Goals as goal

pub returns-then-is_empty-clause-oldest : goal.returns-then-is_empty-clause-oldest
returns-then-is_empty-clause-oldest c = λ arrivals claimed next is.
    arrival_found is.named.is c.args.from c.args.tag c.args.ctx None
    (rw (none_waits is.named.is.queue is.named.is.are (c.is_empty.ensures c.if-is_empty.true)) refl)

pub returns-in_err-a-clause-oldest : goal.returns-in_err-a-clause-oldest
returns-in_err-a-clause-oldest c = λ arrivals claimed next is.
    c.from_residual.ensures ∙ arrival_found is.named.is c.args.from c.args.tag c.args.ctx None
    (c.in_err-a.ensures.oldest is.named.is.queue next is.named.is.are is.wildcards)

pub returns-in_err-a-clause-others : goal.returns-in_err-a-clause-others
returns-in_err-a-clause-others c = λ arrivals claimed next two is.
    let none = c.in_err-a.ensures.none refl in
    rw c.from_residual.ensures (unexpected_in (named_kept is.named (bucket_of c.take_oldest.new.self.named.map)
    (get same_message c.args.self.now.standings)
    (λ k. ap (λ (b : Buckets Arrival). bucket_of b.map k) none.0) (λ id. refl))
    (none.1 is.named.is.queue next is.named.is.are is.wildcards))

pub returns-clause-oldest : goal.returns-clause-oldest
returns-clause-oldest c = λ arrivals claimed next is.
    arrival_found is.named.is c.args.from c.args.tag c.args.ctx (Some (c.in_ok-a.field-0-0, c.in_ok-a.a))
    (c.in_ok-a.ensures.oldest is.named.is.queue next is.named.is.are is.wildcards)

pub returns-clause-others : goal.returns-clause-others
returns-clause-others c = λ arrivals claimed next two is stays.
    let found = sym (c.in_ok-a.ensures.oldest is.named.is.queue next is.named.is.are is.wildcards) in
    let taken = c.in_ok-a.ensures.taken is.named.is.queue next is.named.is.are is.wildcards in
    let selected = selected_found is.named.is.queue c.args.from c.args.tag c.args.ctx
    (c.in_ok-a.field-0-0, c.in_ok-a.a) found in
    let updates = rw c.id_of.ensures at c.swap_remove.ensures.updates.0 in
    unexpected_in (named_taken is.named same_message (bucket_of c.take_oldest.new.self.named.map)
    (get same_message c.swap_remove.new.self) TwoMessages two
    (λ a b id. messages_apart id.rank id.n a b) (λ (a : Arrival). matches c.args.from c.args.tag c.args.ctx a.env)
    (c.in_ok-a.field-0-0, c.in_ok-a.a)
    selected
    (id_of_arrival c.in_ok-a.a) (λ id. refl) taken.0.0 taken.0.1 (has_one claimed) (λ id other. refl)
    (there_at same_message-true (has_one claimed) (get same_message c.swap_remove.new.self) (id_of_arrival c.in_ok-a.a)
    (updates (id_of_arrival c.in_ok-a.a) ∙ rw (message_itself (id_of_arrival c.in_ok-a.a), stays) refl))
    (λ id other. updates id ∙ rw other refl))
    (taken.1 (λ (x : ℕ × Arrival). matches c.args.from c.args.tag c.args.ctx x.1.env) selected)
