-- One place more.
use Rattle.nm_why.proofs.PartLemmas.{places_more}
use Rattle.nm_why.proofs.parts.all_places.Goals as goal

pub loop-place-preserved : goal.loop-place-preserved
loop-place-preserved c =
    places_more c.loop-place.place c.loop-place.places.items c.push.new.self.items c.in_ok-push.ensures.items
    c.loop-place.invariant
