use Rattle.nm_lookups.proofs.places.Incoming.of.Goals as goal

pub returns : goal.returns
returns c = record {
  came = c.in_ok-came.ensures;
  settled = c.in_ok-settled.ensures;
}
