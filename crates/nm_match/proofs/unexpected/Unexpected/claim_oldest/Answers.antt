-- The oldest of all that fit leaves its bucket.
use Rattle.std.proofs.Common.{◌∙◌, ℕ, ◌++◌, ◌∷◌, [], Option, Some, None, ap, cond, refl, sym}
use Rattle.std.specs.Option.{option_map}
use Rattle.nm_types.specs.declared.messages.Arrival.{Arrival}
use Rattle.nm_history.specs.Selection.{matches}
use Rattle.indexmap.specs.IndexMap.{get}
use Rattle.nm_match.specs.declared.names.Message.{Message}
use Rattle.nm_match.specs.declared.names.Standing.{Standing}
use Rattle.nm_match.specs.declared.names.Standing.TheVariants.{Aside}
use Rattle.nm_match.specs.declared.buckets.Buckets.{Buckets}
use Rattle.nm_match.specs.Buckets.{bucket_of}
use Rattle.nm_match.specs.Deeds.{is_message}
use Rattle.nm_match.specs.Names.{has_one, id_of_arrival, same_message}
use Rattle.nm_match.specs.Picks.{fits_picks, picks_of_arrival}
use Rattle.nm_match.specs.Queues.{TwoMessages}
use Rattle.nm_match.proofs.NameLemmas.{any_more, any_other, message_itself, named_kept, named_taken}
use Rattle.nm_match.proofs.NameLemmas.{same_message-true, there_at, waits_by_name}
use Rattle.nm_match.proofs.OldestLemmas.{arrival_found, messages_apart, selected_found}
use Rattle.nm_match.proofs.WildcardLemmas.{unexpected_in}
use Rattle.nm_match.proofs.unexpected.Unexpected.claim_oldest.Goals as goal

pub returns-in_err-a-clause-oldest : goal.returns-in_err-a-clause-oldest
returns-in_err-a-clause-oldest c = λ arrivals claimed next is.
    c.from_residual.ensures ∙ arrival_found is.named.is c.args.from c.args.tag c.args.ctx None
    (c.in_err-a.ensures.oldest is.named.is.queue next is.named.is.are is.wildcards)

pub returns-in_err-a-clause-others : goal.returns-in_err-a-clause-others
returns-in_err-a-clause-others c = λ arrivals claimed next two is.
    let none = c.in_err-a.ensures.none refl in
    rw c.from_residual.ensures (unexpected_in (named_kept is.named (bucket_of c.take_oldest.new.self.named.map)
    (get same_message c.args.self.now.standings)
    (λ k. ap (λ (b : Buckets Arrival). bucket_of b.map k) none.0) (λ id. refl))
    (none.1 is.named.is.queue next is.named.is.are is.wildcards))

pub returns-clause-oldest : goal.returns-clause-oldest
returns-clause-oldest c = λ arrivals claimed next is.
    arrival_found is.named.is c.args.from c.args.tag c.args.ctx (Some (c.in_ok-a.field-0-0, c.in_ok-a.a))
    (c.in_ok-a.ensures.oldest is.named.is.queue next is.named.is.are is.wildcards)

pub returns-clause-others : goal.returns-clause-others
returns-clause-others c = λ arrivals claimed next two is.
    let id : Message = id_of_arrival c.in_ok-a.a in
    let found = sym (c.in_ok-a.ensures.oldest is.named.is.queue next is.named.is.are is.wildcards) in
    let taken = c.in_ok-a.ensures.taken is.named.is.queue next is.named.is.are is.wildcards in
    let selected = selected_found is.named.is.queue c.args.from c.args.tag c.args.ctx
    (c.in_ok-a.field-0-0, c.in_ok-a.a) found in
    let waits = waits_by_name is.named TwoMessages two (λ a b id. messages_apart id.rank id.n a b)
    (λ (x : ℕ × Arrival). fits_picks (record { from = c.args.from; tag = c.args.tag; ctx = c.args.ctx })
    (picks_of_arrival x.1)) (c.in_ok-a.field-0-0, c.in_ok-a.a) found id (message_itself id) in
    unexpected_in (named_taken is.named same_message (bucket_of c.take_oldest.new.self.named.map)
    (get same_message c.set_aside.new.standings) TwoMessages two
    (λ a b id. messages_apart id.rank id.n a b) (λ (a : Arrival). matches c.args.from c.args.tag c.args.ctx a.env)
    (c.in_ok-a.field-0-0, c.in_ok-a.a)
    selected
    id (λ id. refl) taken.0.0 taken.0.1 (has_one (claimed ++ c.in_ok-a.a ∷ []))
    (λ other apart. any_other (is_message other.rank other.n) claimed c.in_ok-a.a apart)
    (there_at same_message-true (has_one (claimed ++ c.in_ok-a.a ∷ [])) (get same_message c.set_aside.new.standings) id
    ((rw c.id_of.ensures at c.set_aside.ensures.own)
    ∙ ap (λ (o : Option Standing). option_map (λ s. Aside) o) waits
    ∙ sym (ap (λ b. cond b (Some Aside) None)
    (any_more (is_message id.rank id.n) claimed c.in_ok-a.a (message_itself id)))))
    (rw c.id_of.ensures at c.set_aside.ensures.others))
    (taken.1 (λ (x : ℕ × Arrival). matches c.args.from c.args.tag c.args.ctx x.1.env) selected)
