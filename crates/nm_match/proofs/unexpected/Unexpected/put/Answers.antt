-- It is last in its bucket, and stands there by its sender and its place.
use Rattle.std.proofs.Common.{◌≡◌, ◌∙◌, List, None, ap, refl, subst}
use Rattle.std.specs.List.{find}
use Rattle.std.specs.Map.{lookup}
use Rattle.nm_types.proofs.ResultLemmas.{on_err}
use Rattle.indexmap.specs.IndexMap.{get}
use Rattle.nm_match.specs.declared.names.Message.{Message}
use Rattle.nm_match.specs.declared.names.Standing.{Standing}
use Rattle.nm_match.specs.Buckets.{bucket_of}
use Rattle.nm_match.specs.Deeds.{is_message}
use Rattle.nm_match.specs.Names.{id_of_arrival, same_message}
use Rattle.nm_match.specs.Picks.{picks_of_arrival}
use Rattle.nm_match.proofs.HeldLemmas.{all_same}
use Rattle.nm_match.proofs.NameLemmas.{named_kept, named_put, same_message-true}
use Rattle.nm_match.proofs.WildcardLemmas.{unexpected_in}
use Rattle.nm_match.proofs.unexpected.Unexpected.put.Goals as goal

pub returns-in_err-reserve-clause-err : goal.returns-in_err-reserve-clause-err
returns-in_err-reserve-clause-err c = on_err c.from_residual.result (λ arrivals claimed next is. unexpected_in (named_kept is.named (bucket_of c.args.self.now.waiting.named.map) (get same_message c.reserve.new.self)
    (λ k. refl)
    (λ id. ap (λ (es : List (Message × Standing)). lookup (same_message id) es) c.reserve.ensures.entries))
    (is.wildcards))

pub returns-in_err-put-clause-err : goal.returns-in_err-put-clause-err
returns-in_err-put-clause-err c = on_err c.from_residual-in_err-put.result (λ arrivals claimed next is. unexpected_in (named_kept is.named (bucket_of c.put.new.self.named.map) (get same_message c.reserve.new.self)
    (all_same (bucket_of c.args.self.now.waiting.named.map) (bucket_of c.put.new.self.named.map)
    (picks_of_arrival c.args.a) c.in_err-put.ensures.err.0 c.in_err-put.ensures.others)
    (λ id. ap (λ (es : List (Message × Standing)). lookup (same_message id) es) c.reserve.ensures.entries))
    (rw c.in_err-put.ensures.err.1 is.wildcards))

pub returns-clause-ok : goal.returns-clause-ok
returns-clause-ok c = λ arrivals claimed is none.
    let updates = rw (c.of_arrival-key.ensures, c.id_of.ensures) at
    (rw c.unwrap.ensures at c.insert.ensures.updates).0 in
    unexpected_in (named_put is.named same_message (bucket_of c.put.new.self.named.map)
    (get same_message c.insert.new.self) c.args.a (id_of_arrival c.args.a) (λ id. refl)
    (λ id here. subst (λ (m : Message). find (is_message m.rank m.n) arrivals ≡ None)
    (same_message-true (id_of_arrival c.args.a) id here) none) c.in_ok-put.ensures.own c.in_ok-put.ensures.others
    (λ id here. updates id ∙ rw here refl)
    (λ id other. updates id
    ∙ rw other (ap (λ (es : List (Message × Standing)). lookup (same_message id) es) c.reserve.ensures.entries)))
    (c.in_ok-put.ensures.wildcards is.named.is.queue (bucket_of c.args.self.now.waiting.named.map)
    is.named.is.are is.wildcards)
