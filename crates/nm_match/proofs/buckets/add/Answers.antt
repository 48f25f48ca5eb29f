-- The bucket of the key has it last, and the others stay.
use Rattle.std.proofs.Common.{rules, [], sym, ap, ◌∙◌}
use Rattle.std.specs.Option.{option_map_or}
use Rattle.nm_match.specs.Buckets.{bucket_of, entries_of}
use Rattle.std.proofs.lemmas.Result.{on_ok_weaker}
use Rattle.nm_match.proofs.BucketLemmas.{same_put}
use Rattle.nm_match.proofs.buckets.add.Goals as goal

pub returns-in-Occupied-clause-own : goal.returns-in-Occupied-clause-own
returns-in-Occupied-clause-own g c =
    let last = c.map-in-Occupied-2-1.given.1 (search rules) in
    let value = rw c.in-Occupied.is at c.in_ok-entry.ensures.value in
    let written = rw c.in-Occupied.is at (c.in_ok-entry.ensures.update.0 c.put.new.self).1 in
    on_ok_weaker c.put.result
    (same_put c.args.order c.args.item
    (ap (λ o. option_map_or entries_of o []) (sym value ∙ c.into_mut.ensures.value))
    (ap (λ m. bucket_of m c.args.key) last ∙ ap (λ o. option_map_or entries_of o []) written))
    c.put.ensures.ok

pub returns-in-Occupied-clause-others : goal.returns-in-Occupied-clause-others
returns-in-Occupied-clause-others g c = λ k apart.
    let last = c.map-in-Occupied-2-1.given.1 (search rules) in
    let kept = rw c.in-Occupied.is at ((c.in_ok-entry.ensures.update.0 c.put.new.self).2 k apart) in
    ap (λ m. bucket_of m k) last ∙ ap (λ o. option_map_or entries_of o []) kept

pub returns-in-Vacant-clause-others : goal.returns-in-Vacant-clause-others
returns-in-Vacant-clause-others g c = λ k apart.
    let last = c.map-in-Vacant-2-1.given.1 (search rules) in
    let kept = rw c.in-Vacant.is at ((c.in_ok-entry.ensures.update.0 c.insert.result.now).2 k apart) in
    ap (λ m. bucket_of m k) last ∙ ap (λ o. option_map_or entries_of o []) kept
