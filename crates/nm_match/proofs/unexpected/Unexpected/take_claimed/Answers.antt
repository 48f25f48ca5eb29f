-- The message is claimed no more.
use Rattle.std.proofs.Common.{◌∙◌, not, refl}
use Rattle.std.specs.List.{filter}
use Rattle.nm_types.specs.declared.messages.Arrival.{Arrival}
use Rattle.indexmap.specs.IndexMap.{get}
use Rattle.nm_match.specs.Buckets.{bucket_of}
use Rattle.nm_match.specs.Deeds.{is_message}
use Rattle.nm_match.specs.Names.{has_one, same_message}
use Rattle.nm_match.proofs.NameLemmas.{left_gone, left_other, message_itself, named_freed, same_message-true, there_at}
use Rattle.nm_match.proofs.WildcardLemmas.{unexpected_in}
use Rattle.nm_match.proofs.unexpected.Unexpected.take_claimed.Goals as goal

pub returns : goal.returns
returns c = record {
  left = λ arrivals claimed next is none.
      let updates = c.swap_remove.ensures.updates.0 in
      unexpected_in (named_freed is.named same_message (bucket_of c.args.self.now.waiting.named.map)
      (get same_message c.swap_remove.new.self) same_message-true
      c.args.id none (λ k. refl)
      (has_one (filter (λ (a : Arrival). not (is_message c.args.id.rank c.args.id.n a)) claimed))
      (λ id apart. left_other c.args.id id claimed apart)
      (there_at same_message-true
      (has_one (filter (λ (a : Arrival). not (is_message c.args.id.rank c.args.id.n a)) claimed))
      (get same_message c.swap_remove.new.self) c.args.id
      (updates c.args.id ∙ rw (message_itself c.args.id, left_gone c.args.id claimed) refl))
      (λ id other. updates id ∙ rw other refl))
      (is.wildcards);
}
