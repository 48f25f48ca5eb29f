-- The entry leaves the bucket, and an emptied bucket leaves the map.
use Rattle.nm_match.proofs.PlaceLemmas.{taken_left, taken_whole}
use Rattle.nm_match.proofs.buckets.take_at.Goals as goal

pub returns-then-take : goal.returns-then-take
returns-then-take g c = λ key found.
    taken_whole c.args.map.now c.pair_mut-bucket.ensures.unique key c.args.place found _ _ c.take.new.self
    c.pair_mut-bucket.ensures.value c.args.order (c.take.ensures.only c.if-take.true)
    c.swap_remove_index.new.self c.swap_remove_index.result c.swap_remove_index.ensures.entry
    c.swap_remove_index.ensures.updates

pub returns-else-take : goal.returns-else-take
returns-else-take g c = λ key found.
    taken_left c.args.map.now c.pair_mut-bucket.ensures.unique key c.args.place found _ _ c.take.new.self
    c.pair_mut-bucket.ensures.value c.args.order (c.take.ensures.left c.if-take.false)
