-- Each entry of the bucket goes to its place.
use Rattle.std.proofs.Common.{◌≡◌, ℕ, List, [], ◌∷◌, Option, ap, sym, ◌∙◌}
use Rattle.std.specs.Option.{option_map_or}
use Rattle.nm_types.specs.declared.messages.Arrival.{Arrival}
use Rattle.nm_match.specs.declared.buckets.Bucket.{Bucket}
use Rattle.nm_match.specs.declared.picks.Picks.{Picks}
use Rattle.nm_match.specs.Buckets.{bucket_at, bucket_of, entries_of, with_entries}
use Rattle.nm_match.proofs.waiting.pour.Goals as goal

pub loop-order-preserved : goal.loop-order-preserved
loop-order-preserved c =
    ap (λ (l : List (ℕ × Arrival)). with_entries l c.next.new.self) c.in_ok-insert-2.ensures.entries
    ∙ ap (λ (l : List (ℕ × Arrival)). with_entries c.loop-order.by_age.entries l) (sym c.in-Some-2.ensures.steps)
    ∙ c.loop-order.invariant

pub returns : goal.returns
returns c =
    let m = c.args.named.now.map in
    let b = c.in-Some.bucket.now in
    let old = c.args.by_age.now.entries in
    let its : entries_of b ≡ bucket_at m c.args.index =
    sym (ap (λ (o : Option (Picks × Bucket Arrival)). option_map_or (λ e. bucket_of m e.0) o [])
    (sym c.in-Some.ensures.entry)
    ∙ ap (λ (o : Option (Bucket Arrival)). option_map_or entries_of o []) c.in-Some.ensures.value) in
    ap (λ (l : List (ℕ × Arrival)). with_entries c.loop-order.by_age.entries l) (sym c.in-None.ensures.steps.0)
    ∙ c.loop-order.invariant
    ∙ ap (λ (l : List (ℕ × Arrival)). with_entries l c.into_iter-order-iterator.result) c.in_ok-insert.ensures.entries
    ∙ ap (λ (l : List (ℕ × Arrival)). with_entries old (b.oldest ∷ l))
    c.into_iter-order-iterator.ensures.into_iter_gives.0
    ∙ ap (λ (l : List (ℕ × Arrival)). with_entries old l) its
